pub mod CountLaws
pub mod EntriesLaws
pub mod StepLaws
