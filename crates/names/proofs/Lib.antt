pub mod CalendarLaws
pub mod TableLaws
