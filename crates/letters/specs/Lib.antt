pub mod Letter
pub mod Printed
pub mod Short
