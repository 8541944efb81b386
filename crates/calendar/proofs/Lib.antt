pub mod CountLaws
pub mod DateLaws
pub mod DatedLaws
pub mod MonthLaws
pub mod Refused
