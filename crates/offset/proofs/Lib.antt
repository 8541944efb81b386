pub mod HourLaws
pub mod Laws
mod Signed
