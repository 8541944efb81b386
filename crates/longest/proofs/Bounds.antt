-- The most that each number of a record in range takes, by bounds of what hangs on the year, to_int and the offset.
use mathlib.Core.Bool.{Bool}
use mathlib.Core.List.{List}
use Prim.Native.Nat.{ℕ, suc, ◌^◌, ◌≤◌, ◌<◌}
use native.Mathlib.Omega.{arith}
use lib.Dec.{eqb, lit<}
use lib.ListN.{length}
use lib.IntN.{pos}
use Rattle.rules.specs.declared.Record.{Record}
use Rattle.rules.specs.declared.Number.{Number}
use Rattle.rules.specs.declared.Number.TheVariants.{Year4Digits, YearDiv100, YearRem100, Month, MonthDayZero, MonthDaySpace, YearDay, Hour24hZero, Hour24hSpace, Hour12hZero, Hour12hSpace, Minute, Second, WeekDayFrom1, WeekDayFrom0, YearIso8601, YearIso8601Rem100, WeekNumberIso8601, WeekNumberFromSunday, WeekNumberFromMonday, SecondsSinceEpoch}
use Rattle.rules.specs.declared.Offset.TheVariants.{TimeZoneOffsetColonMinimal}
use Rattle.rules.specs.Record.{day, hour, minute, second, weekday, day_of_year, InRange}
use Rattle.rules.specs.Decimal.{decimal_text}
use Rattle.rules.specs.Week.{iso_week}
use Rattle.rules.specs.Writing.{or_if_zero, value_of}
use Rattle.rules.proofs.EventLaws.{split_on}
use Rattle.rules.proofs.DecimalLaws.{count_le, length_decimal_pos}
use Rattle.rules.proofs.FloorLaws.{mod_below}
use Rattle.rules.proofs.RecordLaws.{in_range}
use Rattle.rules.proofs.WeekLaws.{week_number_to, iso_week_to}
use Rattle.rules.proofs.YearLaws.{days_to}
use Rattle.rules.proofs.WidthLaws.{hour12_below}
use Rattle.longest.proofs.Measure.{text_length, width_in, hours_length, form_length}

-- the longest texts of year, century, ISO year and to_int, the default width of a year, the hours of the offset, and the form of `:::z`
pub record Bounds : Type 0 where
  pub year : ℕ
  pub century : ℕ
  pub iso : ℕ
  pub sign : ℕ
  pub to_int : ℕ
  pub hours : ℕ
  pub form : ℕ

-- a record takes no more
pub record Within (b : Bounds) (r : Record) : Type 0 where
  pub year : text_length Year4Digits r ≤ b.year
  pub century : text_length YearDiv100 r ≤ b.century
  pub iso : text_length YearIso8601 r ≤ b.iso
  pub sign : width_in Year4Digits r ≤ b.sign
  pub iso_sign : width_in YearIso8601 r ≤ b.sign
  pub to_int : text_length SecondsSinceEpoch r ≤ b.to_int
  pub hours : (left : Bool) → hours_length left r ≤ b.hours
  pub form : form_length TimeZoneOffsetColonMinimal r ≤ b.form

-- a record takes as much, and two digits for the year, the ISO year and the week within their hundred
pub record Meets (b : Bounds) (r : Record) : Type 0 where
  pub year : b.year ≤ text_length Year4Digits r
  pub century : b.century ≤ text_length YearDiv100 r
  pub year_in : 2 ≤ text_length YearRem100 r
  pub iso : b.iso ≤ text_length YearIso8601 r
  pub iso_in : 2 ≤ text_length YearIso8601Rem100 r
  pub week : 2 ≤ text_length WeekNumberIso8601 r
  pub sign : b.sign ≤ width_in Year4Digits r
  pub iso_sign : b.sign ≤ width_in YearIso8601 r
  pub to_int : b.to_int ≤ text_length SecondsSinceEpoch r
  pub hours : (left : Bool) → b.hours ≤ hours_length left r
  pub form : b.form ≤ form_length TimeZoneOffsetColonMinimal r

-- a number below 10 ^ (k + 1) has at most k + 1 digits
pub few : (k n : ℕ) → n < 10 ^ suc k → length (decimal_text (pos n)) ≤ suc k
few k n h = omega (arith, length_decimal_pos n, count_le k n h)

-- the most that each number takes; m: what the month takes
unfoldable pub most : Bounds → ℕ → Number → ℕ
most b m Year4Digits = b.year
most b m YearDiv100 = b.century
most b m YearRem100 = 2
most b m Month = m
most b m MonthDayZero = 2
most b m MonthDaySpace = 2
most b m YearDay = 3
most b m Hour24hZero = 2
most b m Hour24hSpace = 2
most b m Hour12hZero = 2
most b m Hour12hSpace = 2
most b m Minute = 2
most b m Second = 2
most b m WeekDayFrom1 = 1
most b m WeekDayFrom0 = 1
most b m YearIso8601 = b.iso
most b m YearIso8601Rem100 = 2
most b m WeekNumberIso8601 = 2
most b m WeekNumberFromSunday = 2
most b m WeekNumberFromMonday = 2
most b m SecondsSinceEpoch = b.to_int

from1_small : (d : ℕ) → d ≤ 6 → or_if_zero 7 d < 10
from1_small d l = split_on (λ n. n < 10) (eqb d 0) (λ t. omega arith) (λ t. omega arith)

module _ (r : Record) (zone : List ℕ) (h : InRange r zone) where
  pub at_most : (b : Bounds) (m : ℕ) → Within b r → text_length Month r ≤ m → (n : Number) → text_length n r ≤ most b m n
  unfolding value_of most
  at_most b m w k Year4Digits = w.year
  at_most b m w k YearDiv100 = w.century
  at_most b m w k YearRem100 = few 1 _ (mod_below r.year 100 (lit< tt))
  at_most b m w k Month = k
  at_most b m w k MonthDayZero = few 1 _ (omega (arith, in_range r zone h day))
  at_most b m w k MonthDaySpace = few 1 _ (omega (arith, in_range r zone h day))
  at_most b m w k YearDay = few 2 _ (omega (arith, in_range r zone h day_of_year, days_to r.year))
  at_most b m w k Hour24hZero = few 1 _ (omega (arith, in_range r zone h hour))
  at_most b m w k Hour24hSpace = few 1 _ (omega (arith, in_range r zone h hour))
  at_most b m w k Hour12hZero = few 1 _ (hour12_below r.hour)
  at_most b m w k Hour12hSpace = few 1 _ (hour12_below r.hour)
  at_most b m w k Minute = few 1 _ (omega (arith, in_range r zone h minute))
  at_most b m w k Second = few 1 _ (omega (arith, in_range r zone h second))
  at_most b m w k WeekDayFrom1 = few 0 _ (from1_small r.day_of_week (in_range r zone h weekday))
  at_most b m w k WeekDayFrom0 = few 0 _ (omega (arith, in_range r zone h weekday))
  at_most b m w k YearIso8601 = w.iso
  at_most b m w k YearIso8601Rem100 = few 1 _ (mod_below (iso_week r.year r.day_of_week r.day_of_year).year 100 (lit< tt))
  at_most b m w k WeekNumberIso8601 = few 1 _ (omega (arith, iso_week_to r.year r.day_of_week r.day_of_year (in_range r zone h day_of_year).1))
  at_most b m w k WeekNumberFromSunday = few 1 _ (omega (arith, week_number_to 0 r.year r.day_of_week r.day_of_year (in_range r zone h day_of_year).1))
  at_most b m w k WeekNumberFromMonday = few 1 _ (omega (arith, week_number_to 1 r.year r.day_of_week r.day_of_year (in_range r zone h day_of_year).1))
  at_most b m w k SecondsSinceEpoch = w.to_int
