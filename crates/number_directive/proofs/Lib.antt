pub mod FractionLaws
pub mod NumberLaws
