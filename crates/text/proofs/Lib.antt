pub mod OverlayLaws
pub mod PlaceLaws
pub mod CountLaws
pub mod RanLaws
pub mod EntryLaws
pub mod JudgedLaws
