pub mod Hour
pub mod Parts
