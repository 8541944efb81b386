pub mod CompileLaws
pub mod PartLaws
pub mod SectionLaws
