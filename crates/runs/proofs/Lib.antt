pub mod EntryLaws
pub mod NumberLaws
pub mod ReadLaws
