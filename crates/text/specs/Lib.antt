pub mod Overlay
pub mod Ran
pub mod Room
