pub mod Parts
pub mod Sections
