-- Each arm is the entry of its letter: a directive that is called, or a number by one of three laws (of no field, of one field, of the week's fields). What else its calls ask is found by search.
use mathlib.Core.Path.{refl, ap, ◌∙◌}
use native.Mathlib.Omega.{arith}
use lib.Dec.{lit≤}
use lib.IntN.{ℤ, pos}
use mir.Syntax.{w32, w64}
use mir.ValLaws.{to_z-of_z}
use Rattle.rules.specs.declared.IsoWeek.{IsoWeek}
use Rattle.rules.specs.declared.Combination.TheVariants.{CombinationDateTime, CombinationDate, CombinationIso8601, CombinationVmsDate, CombinationTime12h, CombinationHourMinute24h, CombinationTime24h}
use Rattle.rules.specs.declared.Fixed.TheVariants.{Newline, Tabulation, Percent}
use Rattle.rules.specs.declared.Fraction.TheVariants.{MilliSecond, FractionalSecond}
use Rattle.rules.specs.declared.Name.TheVariants.{MonthName, MonthNameAbbr, MeridianLower, MeridianUpper, WeekDayName, WeekDayNameAbbr}
use Rattle.rules.specs.declared.Number.TheVariants.{Year4Digits, YearDiv100, YearRem100, Month, MonthDayZero, MonthDaySpace, YearDay, Hour24hZero, Hour24hSpace, Hour12hZero, Hour12hSpace, Minute, Second, WeekDayFrom1, WeekDayFrom0, YearIso8601, YearIso8601Rem100, WeekNumberIso8601, WeekNumberFromSunday, WeekNumberFromMonday, SecondsSinceEpoch}
use Rattle.rules.specs.declared.Offset.TheVariants.{TimeZoneOffsetHourMinute}
use Rattle.rules.specs.declared.Spec.TheVariants.{Name as name, Fraction as fraction, Offset as offset, TimeZoneName, Fixed as fixed, Combination as combination}
use Rattle.rules.specs.Decimal.{floor_div, floor_mod}
use Rattle.rules.specs.Reading.{look_up, possible_specs}
use Rattle.rules.specs.Record.{month, day, hour, minute, second, weekday, day_of_year}
use Rattle.rules.specs.Writing.{value_of, default_width, fill_of, number_fields, fraction_digits}
use Rattle.rules.proofs.YearLaws.{days_to}
use Rattle.numbers.proofs.Signed.{widened}
use Rattle.values.proofs.Laws.{weekly, unchecked, checked, week_checked}
use Rattle.number_directive.proofs.FractionLaws.{fraction_run}
use Rattle.combination_directive.proofs.CombinedLaws.{plainly}
use Rattle.letters.proofs.ArmLaws.{known, known_two, of_value, exact, exact_year, in_field, from_1_small, week_small, iso_small}
use Rattle.letters.proofs.letter.Goals as goal

-- ## What the calls ask

pub two_or-requires : goal.two_or-requires
two_or-requires c = (c.requires, λ t. omega (arith, in_field hour _ c.hour.ensures t))

pub two_or-requires-in-77 : goal.two_or-requires-in-77
two_or-requires-in-77 c = (c.requires, λ t. omega (arith, in_field minute _ c.minute.ensures t))

pub two_or-requires-in-83 : goal.two_or-requires-in-83
two_or-requires-in-83 c = (c.requires, λ t. omega (arith, in_field second _ c.second.ensures t))

pub two_or-requires-in-85 : goal.two_or-requires-in-85
two_or-requires-in-85 c = (c.requires, week_small _ c.week-in-85.ensures 0 c.week_of.ensures)

pub two_or-requires-in-86 : goal.two_or-requires-in-86
two_or-requires-in-86 c = (c.requires, iso_small _ c.week-in-86.ensures c.iso-in-86.ensures)

pub two_or-requires-in-87 : goal.two_or-requires-in-87
two_or-requires-in-87 c = (c.requires, week_small _ c.week-in-87.ensures 1 c.week_of-in-87.ensures)

pub two_or-requires-in-100 : goal.two_or-requires-in-100
two_or-requires-in-100 c = (c.requires, λ t. omega (arith, in_field day _ c.day.ensures t))

pub spaced_or-requires : goal.spaced_or-requires
spaced_or-requires c = (c.requires, λ t. omega (arith, in_field day _ c.day-in-101.ensures t))

pub three_or-requires : goal.three_or-requires
three_or-requires c = (c.requires, λ t. omega (arith, in_field day_of_year _ c.day_of_year.ensures t, days_to c.args.«record».year))

pub spaced_or-requires-in-107 : goal.spaced_or-requires-in-107
spaced_or-requires-in-107 c = (c.requires, λ t. omega (arith, in_field hour _ c.hour-in-107.ensures t))

pub two_or-requires-in-109 : goal.two_or-requires-in-109
two_or-requires-in-109 c = (c.requires, λ t. omega (arith, in_field month _ c.month.ensures t))

pub one_or-requires : goal.one_or-requires
one_or-requires c = (c.requires, λ t. omega (arith, c.from_1.ensures, from_1_small c.args.«record».day_of_week (in_field weekday _ c.day_of_week.ensures t)))

pub one_or-requires-in-119 : goal.one_or-requires-in-119
one_or-requires-in-119 c = (c.requires, λ t. omega (arith, in_field weekday _ c.day_of_week-in-119.ensures t))

-- ## What the arms say

-- Percent
pub returns-in-37 : goal.returns-in-37
unfolding look_up possible_specs
returns-in-37 c = known _ _ (fixed Percent) c.in-37.is refl (c.plain_fixed.ensures _ _ _)

-- WeekDayName
pub returns-in-65 : goal.returns-in-65
unfolding look_up possible_specs
returns-in-65 c = known _ _ (name WeekDayName) c.in-65.is refl (c.plain_name.ensures _ _)

-- MonthName
pub returns-in-66 : goal.returns-in-66
unfolding look_up possible_specs
returns-in-66 c = known _ _ (name MonthName) c.in-66.is refl (c.plain_name-in-66.ensures _ _)

-- YearDiv100
pub returns-in-67 : goal.returns-in-67
unfolding look_up possible_specs value_of default_width fill_of number_fields
returns-in-67 c =
    let q = c.div_euclid_100 in
    let year = to_z-of_z w32 c.args.«record».year (omega arith) in
    of_value _ _ YearDiv100 c.in-67.is refl (unchecked refl refl refl (widened _ (record { sfits = q.type_inv }) ∙ q.ensures ∙ ap (λ (y : ℤ). floor_div y 100) year) (exact (lit≤ tt))) c.decimal.ensures

-- CombinationDate
pub returns-in-68 : goal.returns-in-68
unfolding look_up possible_specs
returns-in-68 c = known_two _ _ (combination CombinationDate) c.in-68.is refl refl (plainly CombinationDate _ (c.pad_none-next.ensures _) (c.date.ensures _) _)

-- CombinationIso8601
pub returns-in-70 : goal.returns-in-70
unfolding look_up possible_specs
returns-in-70 c = known _ _ (combination CombinationIso8601) c.in-70.is refl (plainly CombinationIso8601 _ (c.pad_none-next-in-70.ensures _) (c.iso8601.ensures _) _)

-- YearIso8601
pub returns-in-71 : goal.returns-in-71
unfolding look_up possible_specs value_of default_width fill_of number_fields
returns-in-71 c =
    let iso = c.iso in
    let year = to_z-of_z w64 iso.result.year (omega arith) in
    of_value _ _ YearIso8601 c.in-71.is refl (week_checked refl refl refl (λ w. year ∙ ap (λ (i : IsoWeek). i.year) (iso.ensures w)) (weekly c.week.ensures exact_year)) c.year_or.ensures

-- Hour24hZero
pub returns-in-72 : goal.returns-in-72
unfolding look_up possible_specs value_of default_width fill_of number_fields
returns-in-72 c = of_value _ _ Hour24hZero c.in-72.is refl (checked refl refl refl c.hour.ensures refl (exact (lit≤ tt))) c.two_or.ensures

-- Hour12hZero
pub returns-in-73 : goal.returns-in-73
unfolding look_up possible_specs value_of default_width fill_of number_fields
returns-in-73 c = of_value _ _ Hour12hZero c.in-73.is refl (checked refl refl refl c.hour-in-73.ensures (ap pos c.hour12.ensures) (exact (lit≤ tt))) c.two_or-in-73.ensures

-- MilliSecond
pub returns-in-76 : goal.returns-in-76
unfolding look_up possible_specs fraction_digits
returns-in-76 c = known _ _ (fraction MilliSecond) c.in-76.is refl (fraction_run MilliSecond _ _ _ refl (c.fraction.ensures _ _))

-- Minute
pub returns-in-77 : goal.returns-in-77
unfolding look_up possible_specs value_of default_width fill_of number_fields
returns-in-77 c = of_value _ _ Minute c.in-77.is refl (checked refl refl refl c.minute.ensures refl (exact (lit≤ tt))) c.two_or-in-77.ensures

-- FractionalSecond
pub returns-in-78 : goal.returns-in-78
unfolding look_up possible_specs fraction_digits
returns-in-78 c = known _ _ (fraction FractionalSecond) c.in-78.is refl (fraction_run FractionalSecond _ _ _ refl (c.fraction-in-78.ensures _ _))

-- MeridianLower
pub returns-in-80 : goal.returns-in-80
unfolding look_up possible_specs
returns-in-80 c = known _ _ (name MeridianLower) c.in-80.is refl (c.plain_name-in-80.ensures _ _)

-- CombinationHourMinute24h
pub returns-in-82 : goal.returns-in-82
unfolding look_up possible_specs
returns-in-82 c = known _ _ (combination CombinationHourMinute24h) c.in-82.is refl (plainly CombinationHourMinute24h _ (c.pad_none-next-in-82.ensures _) (c.hour_minute24h.ensures _) _)

-- Second
pub returns-in-83 : goal.returns-in-83
unfolding look_up possible_specs value_of default_width fill_of number_fields
returns-in-83 c = of_value _ _ Second c.in-83.is refl (checked refl refl refl c.second.ensures refl (exact (lit≤ tt))) c.two_or-in-83.ensures

-- CombinationTime24h
pub returns-in-84 : goal.returns-in-84
unfolding look_up possible_specs
returns-in-84 c = known_two _ _ (combination CombinationTime24h) c.in-84.is refl refl (plainly CombinationTime24h _ (c.pad_none-next-in-84.ensures _) (c.time24h.ensures _) _)

-- WeekNumberFromSunday
pub returns-in-85 : goal.returns-in-85
unfolding look_up possible_specs value_of default_width fill_of number_fields
returns-in-85 c = of_value _ _ WeekNumberFromSunday c.in-85.is refl (week_checked refl refl refl (λ w. ap pos (c.week_of.ensures w)) (weekly c.week-in-85.ensures (exact (lit≤ tt)))) c.two_or-in-85.ensures

-- WeekNumberIso8601
pub returns-in-86 : goal.returns-in-86
unfolding look_up possible_specs value_of default_width fill_of number_fields
returns-in-86 c = of_value _ _ WeekNumberIso8601 c.in-86.is refl (week_checked refl refl refl (λ w. ap (λ (i : IsoWeek). pos i.week) (c.iso-in-86.ensures w)) (weekly c.week-in-86.ensures (exact (lit≤ tt)))) c.two_or-in-86.ensures

-- WeekNumberFromMonday
pub returns-in-87 : goal.returns-in-87
unfolding look_up possible_specs value_of default_width fill_of number_fields
returns-in-87 c = of_value _ _ WeekNumberFromMonday c.in-87.is refl (week_checked refl refl refl (λ w. ap pos (c.week_of-in-87.ensures w)) (weekly c.week-in-87.ensures (exact (lit≤ tt)))) c.two_or-in-87.ensures

-- Year4Digits
pub returns-in-89 : goal.returns-in-89
unfolding look_up possible_specs value_of default_width fill_of number_fields
returns-in-89 c = of_value _ _ Year4Digits c.in-89.is refl (unchecked refl refl refl (widened c.args.«record».year (omega arith)) exact_year) c.year_or-in-89.ensures

-- TimeZoneName
pub returns-in-90 : goal.returns-in-90
unfolding look_up possible_specs
returns-in-90 c = known _ _ TimeZoneName c.in-90.is refl (c.plain_zone_name.ensures _ _)

-- WeekDayNameAbbr
pub returns-in-97 : goal.returns-in-97
unfolding look_up possible_specs
returns-in-97 c = known _ _ (name WeekDayNameAbbr) c.in-97.is refl (c.plain_name-in-97.ensures _ _)

-- MonthNameAbbr
pub returns-in-98 : goal.returns-in-98
unfolding look_up possible_specs
returns-in-98 c = known_two _ _ (name MonthNameAbbr) c.in-98.is refl refl (c.plain_name-in-98.ensures _ _)

-- CombinationDateTime
pub returns-in-99 : goal.returns-in-99
unfolding look_up possible_specs
returns-in-99 c = known _ _ (combination CombinationDateTime) c.in-99.is refl (plainly CombinationDateTime _ (c.pad_none-next-in-99.ensures _) c.date_time.ensures _)

-- MonthDayZero
pub returns-in-100 : goal.returns-in-100
unfolding look_up possible_specs value_of default_width fill_of number_fields
returns-in-100 c = of_value _ _ MonthDayZero c.in-100.is refl (checked refl refl refl c.day.ensures refl (exact (lit≤ tt))) c.two_or-in-100.ensures

-- MonthDaySpace
pub returns-in-101 : goal.returns-in-101
unfolding look_up possible_specs value_of default_width fill_of number_fields
returns-in-101 c = of_value _ _ MonthDaySpace c.in-101.is refl (checked refl refl refl c.day-in-101.ensures refl (exact (lit≤ tt))) c.spaced_or.ensures

-- YearIso8601Rem100
pub returns-in-103 : goal.returns-in-103
unfolding look_up possible_specs value_of default_width fill_of number_fields
returns-in-103 c =
    let iso = c.iso-in-103 in
    let year = to_z-of_z w64 iso.result.year (omega arith) in
    let rem = c.rem_euclid_100.ensures ∙ ap (λ (y : ℤ). floor_mod y 100) year in
    of_value _ _ YearIso8601Rem100 c.in-103.is refl (week_checked refl refl refl (λ w. ap pos (rem ∙ ap (λ (i : IsoWeek). floor_mod i.year 100) (iso.ensures w))) (weekly c.week-in-103.ensures (exact (lit≤ tt)))) c.two_or-in-103.ensures

-- YearDay
pub returns-in-106 : goal.returns-in-106
unfolding look_up possible_specs value_of default_width fill_of number_fields
returns-in-106 c = of_value _ _ YearDay c.in-106.is refl (checked refl refl refl c.day_of_year.ensures refl (exact (lit≤ tt))) c.three_or.ensures

-- Hour24hSpace
pub returns-in-107 : goal.returns-in-107
unfolding look_up possible_specs value_of default_width fill_of number_fields
returns-in-107 c = of_value _ _ Hour24hSpace c.in-107.is refl (checked refl refl refl c.hour-in-107.ensures refl (exact (lit≤ tt))) c.spaced_or-in-107.ensures

-- Hour12hSpace
pub returns-in-108 : goal.returns-in-108
unfolding look_up possible_specs value_of default_width fill_of number_fields
returns-in-108 c = of_value _ _ Hour12hSpace c.in-108.is refl (checked refl refl refl c.hour-in-108.ensures (ap pos c.hour12-in-108.ensures) (exact (lit≤ tt))) c.spaced_or-in-108.ensures

-- Month
pub returns-in-109 : goal.returns-in-109
unfolding look_up possible_specs value_of default_width fill_of number_fields
returns-in-109 c = of_value _ _ Month c.in-109.is refl (checked refl refl refl c.month.ensures refl (exact (lit≤ tt))) c.two_or-in-109.ensures

-- Newline
pub returns-in-110 : goal.returns-in-110
unfolding look_up possible_specs
returns-in-110 c = known _ _ (fixed Newline) c.in-110.is refl (c.plain_fixed-in-110.ensures _ _ _)

-- MeridianUpper
pub returns-in-112 : goal.returns-in-112
unfolding look_up possible_specs
returns-in-112 c = known _ _ (name MeridianUpper) c.in-112.is refl (c.plain_name-in-112.ensures _ _)

-- CombinationTime12h
pub returns-in-114 : goal.returns-in-114
unfolding look_up possible_specs
returns-in-114 c = known _ _ (combination CombinationTime12h) c.in-114.is refl (plainly CombinationTime12h _ (c.pad_none-next-in-114.ensures _) (c.time12h.ensures _) _)

-- SecondsSinceEpoch
pub returns-in-115 : goal.returns-in-115
unfolding look_up possible_specs value_of default_width fill_of number_fields
returns-in-115 c = of_value _ _ SecondsSinceEpoch c.in-115.is refl (unchecked refl refl refl (to_z-of_z w64 c.args.«record».to_int (omega arith)) (exact (lit≤ tt))) c.decimal-in-115.ensures

-- Tabulation
pub returns-in-116 : goal.returns-in-116
unfolding look_up possible_specs
returns-in-116 c = known _ _ (fixed Tabulation) c.in-116.is refl (c.plain_fixed-in-116.ensures _ _ _)

-- WeekDayFrom1
pub returns-in-117 : goal.returns-in-117
unfolding look_up possible_specs value_of default_width fill_of number_fields
returns-in-117 c = of_value _ _ WeekDayFrom1 c.in-117.is refl (checked refl refl refl c.day_of_week.ensures (ap pos c.from_1.ensures) (exact (lit≤ tt))) c.one_or.ensures

-- CombinationVmsDate
pub returns-in-118 : goal.returns-in-118
unfolding look_up possible_specs
returns-in-118 c = known _ _ (combination CombinationVmsDate) c.in-118.is refl (plainly CombinationVmsDate _ (c.pad_none-next-in-118.ensures _) (c.vms_date.ensures _) _)

-- WeekDayFrom0
pub returns-in-119 : goal.returns-in-119
unfolding look_up possible_specs value_of default_width fill_of number_fields
returns-in-119 c = of_value _ _ WeekDayFrom0 c.in-119.is refl (checked refl refl refl c.day_of_week-in-119.ensures refl (exact (lit≤ tt))) c.one_or-in-119.ensures

-- YearRem100
pub returns-in-121 : goal.returns-in-121
unfolding look_up possible_specs value_of default_width fill_of number_fields
returns-in-121 c =
    let year = to_z-of_z w32 c.args.«record».year (omega arith) in
    of_value _ _ YearRem100 c.in-121.is refl (unchecked refl refl refl (ap pos (c.rem_euclid_100-in-121.ensures ∙ ap (λ (y : ℤ). floor_mod y 100) year)) (exact (lit≤ tt))) c.two_or-in-121.ensures

-- TimeZoneOffsetHourMinute
pub returns-in-122 : goal.returns-in-122
unfolding look_up possible_specs
returns-in-122 c = known _ _ (offset TimeZoneOffsetHourMinute) c.in-122.is refl (c.plain_offset.ensures _)
