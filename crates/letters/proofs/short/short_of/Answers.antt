-- Each arm by the value of its letter.
use mathlib.Core.Path.{refl, ap}
use mathlib.Core.Bool.{true, false}
use native.Mathlib.Omega.{arith}
use lib.Dec.{lit≤}
use lib.IntN.{pos}
use Rattle.rules.specs.declared.Number.TheVariants.{Month, MonthDayZero, MonthDaySpace, Hour24hZero, Hour24hSpace, Hour12hZero, Hour12hSpace, Minute, Second}
use Rattle.rules.specs.Record.{month, day, hour, minute, second}
use Rattle.rules.specs.Reading.{look_up, possible_specs}
use Rattle.rules.specs.Writing.{value_of, default_width, fill_of, number_fields}
use Rattle.rules.proofs.WidthLaws.{hour12_below}
use Rattle.values.proofs.Laws.{checked}
use Rattle.letters.proofs.ArmLaws.{exact}
use Rattle.letters.proofs.ShortLaws.{held, short, short_two, bounded}
use Rattle.letters.proofs.short.short_of.Goals as goal

pub returns-in-72 : goal.returns-in-72
unfolding look_up possible_specs value_of default_width fill_of number_fields
returns-in-72 c =
    λ v e.
    let h = held _ _ c.if_ok.ensures e in
    (short_two _ Hour24hZero Hour24hSpace false true c.in-72.is refl refl (checked refl refl refl c.hour.ensures refl (exact (lit≤ tt))) (checked refl refl refl c.hour.ensures refl (exact (lit≤ tt))) h, bounded hour _ c.hour.ensures h (λ w. omega (arith, w)))

pub returns-in-73 : goal.returns-in-73
unfolding look_up possible_specs value_of default_width fill_of number_fields
returns-in-73 c =
    let n = ap pos c.hour12.ensures in
    λ v e.
    let h = held _ _ c.if_ok-in-73.ensures e in
    (short_two _ Hour12hZero Hour12hSpace false true c.in-73.is refl refl (checked refl refl refl c.hour-in-73.ensures n (exact (lit≤ tt))) (checked refl refl refl c.hour-in-73.ensures n (exact (lit≤ tt))) h, bounded hour _ c.hour-in-73.ensures h (λ w. omega (arith, c.hour12.ensures, hour12_below c.args.«record».hour)))

pub returns-in-77 : goal.returns-in-77
unfolding look_up possible_specs value_of default_width fill_of number_fields
returns-in-77 c =
    λ v e.
    let h = held _ _ c.if_ok-in-77.ensures e in
    (short _ Minute false c.in-77.is refl (checked refl refl refl c.minute.ensures refl (exact (lit≤ tt))) h, bounded minute _ c.minute.ensures h (λ w. omega (arith, w)))

pub returns-in-83 : goal.returns-in-83
unfolding look_up possible_specs value_of default_width fill_of number_fields
returns-in-83 c =
    λ v e.
    let h = held _ _ c.if_ok-in-83.ensures e in
    (short _ Second false c.in-83.is refl (checked refl refl refl c.second.ensures refl (exact (lit≤ tt))) h, bounded second _ c.second.ensures h (λ w. omega (arith, w)))

pub returns-in-100 : goal.returns-in-100
unfolding look_up possible_specs value_of default_width fill_of number_fields
returns-in-100 c =
    λ v e.
    let h = held _ _ c.if_ok-in-100.ensures e in
    (short _ MonthDayZero false c.in-100.is refl (checked refl refl refl c.day.ensures refl (exact (lit≤ tt))) h, bounded day _ c.day.ensures h (λ w. omega (arith, w)))

pub returns-in-101 : goal.returns-in-101
unfolding look_up possible_specs value_of default_width fill_of number_fields
returns-in-101 c =
    λ v e.
    let h = held _ _ c.if_ok-in-101.ensures e in
    (short _ MonthDaySpace true c.in-101.is refl (checked refl refl refl c.day-in-101.ensures refl (exact (lit≤ tt))) h, bounded day _ c.day-in-101.ensures h (λ w. omega (arith, w)))

pub returns-in-109 : goal.returns-in-109
unfolding look_up possible_specs value_of default_width fill_of number_fields
returns-in-109 c =
    λ v e.
    let h = held _ _ c.if_ok-in-109.ensures e in
    (short _ Month false c.in-109.is refl (checked refl refl refl c.month.ensures refl (exact (lit≤ tt))) h, bounded month _ c.month.ensures h (λ w. omega (arith, w)))
