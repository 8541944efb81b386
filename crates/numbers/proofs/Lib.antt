pub mod CountLaws
pub mod PairLaws
pub mod PlacesLaws
pub mod Signed
pub mod TextLaws
