pub mod FillWith
pub mod Plain
