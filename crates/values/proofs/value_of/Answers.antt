-- Each arm is one of three laws, of no field, of one field, of the week's fields, or is `iso_value`. What else its calls ask is found by search.
use mathlib.Core.Path.{refl, ap, ◌∙◌}
use native.Mathlib.Omega.{arith}
use lib.IntN.{ℤ, pos}
use mir.Syntax.{w32, w64}
use mir.ValLaws.{to_z-of_z}
use Rattle.rules.specs.Decimal.{floor_div, floor_mod}
use Rattle.rules.specs.Writing.{value_of, default_width, fill_of, number_fields}
use Rattle.numbers.proofs.Signed.{widens, widened}
use Rattle.values.proofs.Laws.{unchecked, checked, week_checked}
use Rattle.values.proofs.value_of.Goals as goal

pub overflow_cast-record : goal.overflow_cast-record
overflow_cast-record c = widens c.args.«record».year (omega arith)

pub returns-in-Year4Digits : goal.returns-in-Year4Digits
unfolding value_of default_width fill_of number_fields
returns-in-Year4Digits c = unchecked c.in-Year4Digits.is refl refl (widened c.args.«record».year (omega arith)) c.year.ensures

pub returns-in-YearDiv100 : goal.returns-in-YearDiv100
unfolding value_of default_width fill_of number_fields
returns-in-YearDiv100 c =
    let q = c.div_euclid_100 in
    let year = to_z-of_z w32 c.args.«record».year (omega arith) in
    unchecked c.in-YearDiv100.is refl refl (to_z-of_z w32 q.result (record { sfits = q.type_inv }) ∙ q.ensures ∙ ap (λ (y : ℤ). floor_div y 100) year) c.zeros.ensures

pub returns-in-YearRem100 : goal.returns-in-YearRem100
unfolding value_of default_width fill_of number_fields
returns-in-YearRem100 c =
    let year = to_z-of_z w32 c.args.«record».year (omega arith) in
    unchecked c.in-YearRem100.is refl refl (ap pos (c.rem_euclid_100.ensures ∙ ap (λ (y : ℤ). floor_mod y 100) year)) c.zeros-in-YearRem100.ensures

pub returns-in-Month : goal.returns-in-Month
unfolding value_of default_width fill_of number_fields
returns-in-Month c = checked c.in-Month.is refl refl c.month.ensures refl c.zeros-in-Month.ensures

pub returns-in-MonthDayZero : goal.returns-in-MonthDayZero
unfolding value_of default_width fill_of number_fields
returns-in-MonthDayZero c = checked c.in-MonthDayZero.is refl refl c.day.ensures refl c.zeros-in-MonthDayZero.ensures

pub returns-in-MonthDaySpace : goal.returns-in-MonthDaySpace
unfolding value_of default_width fill_of number_fields
returns-in-MonthDaySpace c = checked c.in-MonthDaySpace.is refl refl c.day-in-MonthDaySpace.ensures refl c.spaces.ensures

pub returns-in-YearDay : goal.returns-in-YearDay
unfolding value_of default_width fill_of number_fields
returns-in-YearDay c = checked c.in-YearDay.is refl refl c.day_of_year.ensures refl c.zeros-in-YearDay.ensures

pub returns-in-Hour24hZero : goal.returns-in-Hour24hZero
unfolding value_of default_width fill_of number_fields
returns-in-Hour24hZero c = checked c.in-Hour24hZero.is refl refl c.hour.ensures refl c.zeros-in-Hour24hZero.ensures

pub returns-in-Hour24hSpace : goal.returns-in-Hour24hSpace
unfolding value_of default_width fill_of number_fields
returns-in-Hour24hSpace c = checked c.in-Hour24hSpace.is refl refl c.hour-in-Hour24hSpace.ensures refl c.spaces-in-Hour24hSpace.ensures

pub returns-in-Hour12hZero : goal.returns-in-Hour12hZero
unfolding value_of default_width fill_of number_fields
returns-in-Hour12hZero c = checked c.in-Hour12hZero.is refl refl c.hour-in-Hour12hZero.ensures (ap pos c.hour12.ensures) c.zeros-in-Hour12hZero.ensures

pub returns-in-Hour12hSpace : goal.returns-in-Hour12hSpace
unfolding value_of default_width fill_of number_fields
returns-in-Hour12hSpace c = checked c.in-Hour12hSpace.is refl refl c.hour-in-Hour12hSpace.ensures (ap pos c.hour12-in-Hour12hSpace.ensures) c.spaces-in-Hour12hSpace.ensures

pub returns-in-Minute : goal.returns-in-Minute
unfolding value_of default_width fill_of number_fields
returns-in-Minute c = checked c.in-Minute.is refl refl c.minute.ensures refl c.zeros-in-Minute.ensures

pub returns-in-Second : goal.returns-in-Second
unfolding value_of default_width fill_of number_fields
returns-in-Second c = checked c.in-Second.is refl refl c.second.ensures refl c.zeros-in-Second.ensures

pub returns-in-WeekDayFrom1 : goal.returns-in-WeekDayFrom1
unfolding value_of default_width fill_of number_fields
returns-in-WeekDayFrom1 c = checked c.in-WeekDayFrom1.is refl refl c.day_of_week.ensures (ap pos c.from_1.ensures) c.zeros-in-WeekDayFrom1.ensures

pub returns-in-WeekDayFrom0 : goal.returns-in-WeekDayFrom0
unfolding value_of default_width fill_of number_fields
returns-in-WeekDayFrom0 c = checked c.in-WeekDayFrom0.is refl refl c.day_of_week-in-WeekDayFrom0.ensures refl c.zeros-in-WeekDayFrom0.ensures

pub returns-in-WeekNumberFromSunday : goal.returns-in-WeekNumberFromSunday
unfolding value_of default_width fill_of number_fields
returns-in-WeekNumberFromSunday c = week_checked c.in-WeekNumberFromSunday.is refl refl (λ w. ap pos (c.week_of.ensures w)) c.weekly.ensures

pub returns-in-WeekNumberFromMonday : goal.returns-in-WeekNumberFromMonday
unfolding value_of default_width fill_of number_fields
returns-in-WeekNumberFromMonday c = week_checked c.in-WeekNumberFromMonday.is refl refl (λ w. ap pos (c.week_of-in-WeekNumberFromMonday.ensures w)) c.weekly-in-WeekNumberFromMonday.ensures

pub returns-in-SecondsSinceEpoch : goal.returns-in-SecondsSinceEpoch
unfolding value_of default_width fill_of number_fields
returns-in-SecondsSinceEpoch c = unchecked c.in-SecondsSinceEpoch.is refl refl (to_z-of_z w64 c.args.«record».to_int (omega arith)) c.zeros-in-SecondsSinceEpoch.ensures
