pub mod Form
pub mod Parts
pub mod Short
