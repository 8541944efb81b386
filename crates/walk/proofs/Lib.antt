pub mod FrontLaws
pub mod LetterLaws
pub mod LiteralLaws
pub mod MarkLaws
pub mod StampLaws
pub mod WalkLaws
