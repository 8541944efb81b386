pub mod Checks
pub mod Read
