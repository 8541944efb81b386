pub mod CaseLaws
pub mod LetterLaws
pub mod RunLaws
