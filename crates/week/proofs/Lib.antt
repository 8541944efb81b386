pub mod Years
pub mod Outcomes
