pub mod FormLaws
pub mod TextLaws
pub mod WriteLaws
pub mod ShortLaws
pub mod PartsLaws
