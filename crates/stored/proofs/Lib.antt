pub mod CopyLaws
pub mod EntryLaws
pub mod Outcomes
pub mod StampLaws
pub mod StepLaws
