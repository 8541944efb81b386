pub mod ElseBranches
pub mod Laws
pub mod Positions
pub mod Faults
