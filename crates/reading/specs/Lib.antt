pub mod Stages
pub mod Literals
