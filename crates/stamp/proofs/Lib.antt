pub mod NumberLaws
pub mod ReadBack
pub mod SignedLaws
