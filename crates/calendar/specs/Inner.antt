-- What the inner functions ask and answer.
use Rattle.std.specs.Prelude.{◌≡◌, ℕ, ℤ, Option, Some, None}
use Rattle.rules.specs.Calendar.{Exists, year_day, weekday_of, DateOf}
use Rattle.calendar.specs.declared.Date.{Date}

-- the date of a day, with its weekday and day of the year
pub record DateFor (day : ℤ) (r : Date) : Type 0 where
  pub date : DateOf day r.year r.month r.day
  pub weekday : r.day_of_week ≡ weekday_of day
  pub day_of_year : r.day_of_year ≡ year_day r.year r.month r.day

-- the day of a date, or that there is none
pub data DayFor (y : ℤ) (m d : ℕ) : Option ℤ → Type 0 where
  found : {day : ℤ} → DateOf day y m d → DayFor y m d (Some day)
  missing : (Exists y m d → ⊥) → DayFor y m d None
