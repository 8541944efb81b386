-- Week numbers (01, "`U`, `W`" and "`G`, `g`, `V`"), the Thursday rule of ISO 8601, and the original's function beside it.
use Rattle.std.specs.Prelude.{◌≡◌, Bool, cond, ◌&&◌, ℕ, zero, suc, ◌+◌, ◌-◌, ◌/◌, ◌%◌, ◌<◌, ltb, ℤ, pos, negsuc, ◌+ℤ◌, ◌-ℤ◌}
use Rattle.std.specs.Int.Signed.{lt_z, le_z, quot_z, rem_z}
use Rattle.rules.specs.declared.IsoWeek.{IsoWeek}
use Rattle.rules.specs.Decimal.{floor_mod}
use Rattle.rules.specs.Calendar.{is_leap, days_in, year_start}

-- "with d the zero-based day and s = (d − weekday) mod 7 for `U`, (d − weekday + 1) mod 7 for `W`, the number is (d + 7 − s) / 7":
-- start is 0 for `U` and 1 for `W`
unfoldable pub week_number : ℕ → ℕ → ℕ → ℕ
week_number start weekday day =
    let d = day - 1 in
    (d + 7 - floor_mod (pos d -ℤ pos weekday +ℤ pos start) 7) / 7

-- the days from the Monday of a day's week to the day. Sunday is weekday 0
abbrev pub since_monday : ℕ → ℕ
since_monday weekday = (weekday + 6) % 7

-- the Thursday of the day's Monday-based week, zero-based in the day's year; it may lie before that year or after it
abbrev pub thursday_of : ℕ → ℕ → ℤ
thursday_of weekday day = pos (day - 1) -ℤ pos (since_monday weekday) +ℤ pos 3

-- the year that holds a day counted from the start of year y,
-- "and that Thursday's zero-based ordinal divided by 7, plus one"
unfoldable pub week_holding : ℤ → ℤ → IsoWeek
week_holding y (negsuc a) = record { year = y -ℤ pos 1; week = (days_in (y -ℤ pos 1) - suc a) / 7 + 1 }
week_holding y (pos t) =
    cond (ltb t (days_in y)) (record { year = y; week = t / 7 + 1 }) (record { year = y +ℤ pos 1; week = (t - days_in y) / 7 + 1 })

-- ISO 8601: "the year holding the Thursday of that Monday-based week"
unfoldable pub iso_week : ℤ → ℕ → ℕ → IsoWeek
iso_week y weekday day = week_holding y (thursday_of weekday day)

-- the same by the calendar: that Thursday is day `ordinal`, from 0, of the year
pub record Iso8601 (y : ℤ) (weekday day : ℕ) (r : IsoWeek) : Type 0 where
  pub ordinal : ℕ
  pub in_year : ordinal < days_in r.year
  pub thursday : year_start r.year +ℤ pos ordinal ≡ year_start y +ℤ thursday_of weekday day
  pub week : r.week ≡ ordinal / 7 + 1

-- The original's function, week.rs line for line. Nothing else is defined by it; that it answers `iso_week` for a day that exists in its year is proved.
pub record YearAndWeek : Type 0 where
  pub year : ℤ
  pub week : ℤ

abbrev pub start_of_first_week : ℤ → ℤ → ℤ
start_of_first_week week_day year_day =
    let start = floor_mod (year_day -ℤ week_day +ℤ pos 1) 7 in
    cond (ltb 3 start) (pos start -ℤ pos 7) (pos start)

abbrev pub last_year_day : ℤ → ℤ
last_year_day year = cond (is_leap year) (pos 365) (pos 364)

abbrev pub week_day_of_last : ℤ → ℤ → ℤ → ℤ
week_day_of_last year week_day year_day = rem_z (week_day +ℤ last_year_day year -ℤ year_day) (pos 7)

abbrev pub in_last_week : ℤ → ℤ → ℤ → Bool
in_last_week year week_day year_day =
    let last = week_day_of_last year week_day year_day in
    le_z (pos 1) last && (le_z last (pos 3) && le_z (last_year_day year -ℤ (last -ℤ pos 1)) year_day)

abbrev pub current_or_next : ℤ → ℤ → ℤ → YearAndWeek
current_or_next year week_day year_day =
    let week = quot_z (year_day +ℤ pos 7 -ℤ start_of_first_week week_day year_day) (pos 7) in
    cond (le_z (pos 52) week && in_last_week year week_day year_day) (record { year = year +ℤ pos 1; week = pos 1 }) (record { year = year; week = week })

-- "before week one it starts again once with the year before": `restarts` are left
unfoldable pub iso8601_year_and_week_number : ℕ → ℤ → ℤ → ℤ → YearAndWeek
iso8601_year_and_week_number zero year week_day year_day_1 = current_or_next year week_day (year_day_1 -ℤ pos 1)
iso8601_year_and_week_number (suc restarts) year week_day year_day_1 =
    let year_day = year_day_1 -ℤ pos 1 in
    let before = year -ℤ pos 1 in
    cond (lt_z year_day (start_of_first_week week_day year_day))
    (iso8601_year_and_week_number restarts before week_day (cond (is_leap before) (pos 366) (pos 365) +ℤ year_day +ℤ pos 1))
    (current_or_next year week_day year_day)
