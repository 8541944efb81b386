pub mod ArmLaws
pub mod LeafLaws
pub mod LetterLaws
pub mod ShortLaws
