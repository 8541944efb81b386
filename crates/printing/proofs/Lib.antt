pub mod FilledLaws
pub mod YearLaws
pub mod WriteLaws
