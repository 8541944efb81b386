-- The proleptic Gregorian calendar, for every year of ℤ (02, request 1).
use Rattle.std.specs.Prelude.{◌≡◌, Bool, cond, not, ◌&&◌, ◌||◌, ℕ, ◌+◌, ◌-◌, ◌≤◌, eqb, ℤ, pos, ◌+ℤ◌, ◌-ℤ◌, ◌*ℤ◌, get_or, take}
use mathlib.Core.List.{List, [], ◌∷◌, sum}
use Rattle.rules.specs.Decimal.{floor_div, floor_mod}

-- the years divisible by 400, or by 4 and not by 100
unfoldable pub is_leap : ℤ → Bool
is_leap y = eqb (floor_mod y 400) 0 || (eqb (floor_mod y 4) 0 && not (eqb (floor_mod y 100) 0))

-- a leap year has one day more
unfoldable pub leap_day : ℤ → ℕ
leap_day y = cond (is_leap y) 1 0

unfoldable pub days_in : ℤ → ℕ
days_in y = 365 + leap_day y

-- the lengths of the months, January's first, where February has `leap` days more than 28
unfoldable pub months : ℕ → List ℕ
months leap = 31 ∷ (28 + leap) ∷ 31 ∷ 30 ∷ 31 ∷ 30 ∷ 31 ∷ 31 ∷ 30 ∷ 31 ∷ 30 ∷ 31 ∷ []

-- the length of month m, and of all months before it. January is 1
unfoldable pub month_days : ℕ → ℕ → ℕ
month_days leap m = get_or (months leap) (m - 1) 0

unfoldable pub days_before : ℕ → ℕ → ℕ
days_before leap m = sum ◌+◌ 0 (take (m - 1) (months leap))

-- year y has a day d of month m
pub record Exists (y : ℤ) (m d : ℕ) : Type 0 where
  pub month_from : 1 ≤ m
  pub month_to : m ≤ 12
  pub day_from : 1 ≤ d
  pub day_to : d ≤ month_days (leap_day y) m

-- the day of the year. January 1 is 1
unfoldable pub year_day : ℤ → ℕ → ℕ → ℕ
year_day y m d = days_before (leap_day y) m + d

-- the days from 0001-01-01 to January 1 of year y: 365 for each year between, and a leap day for each fourth, not for each hundredth,
-- but for each four hundredth
unfoldable pub year_start : ℤ → ℤ
year_start y =
    let years = y -ℤ pos 1 in
    years *ℤ pos 365 +ℤ floor_div years 4 -ℤ floor_div years 100 +ℤ floor_div years 400

-- the days from 1970-01-01, which is 719,162 days after 0001-01-01
unfoldable pub day_number : ℤ → ℕ → ℕ → ℤ
day_number y m d = year_start y +ℤ pos (year_day y m d) -ℤ pos 719163

-- the weekday of a day by its number. Sunday is 0, and day 0 a Thursday
unfoldable pub weekday_of : ℤ → ℕ
weekday_of day = floor_mod (day +ℤ pos 4) 7

-- the day's date is y-m-d
pub record DateOf (day y : ℤ) (m d : ℕ) : Type 0 where
  pub exists : Exists y m d
  pub number : day_number y m d ≡ day
