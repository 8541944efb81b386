-- The original's function with one restart answers the rules' ISO week; between week one and week 52 it is the week of the year itself.
use mathlib.Core.Path.{ap, ◌∙◌, subst⁻¹}
use Prim.Native.Nat.{◌+◌, ◌-◌, ◌/◌}
use native.Mathlib.Omega.{arith}
use lib.IntN.{ℤ, pos, nat_abs}
use Rattle.rules.specs.declared.IsoWeek.{IsoWeek}
use Rattle.rules.specs.Week.{YearAndWeek, iso8601_year_and_week_number}
use Rattle.rules.proofs.WeekLaws.{iso_original}
use Rattle.rules.proofs.YearLaws.{days_to}
use Rattle.week.specs.Inner.{Restarts}
use Rattle.numbers.proofs.Signed.{widens, widened}
use Rattle.week.proofs.Outcomes.{below_52, week_one_lem, begun}
use Rattle.week.proofs.iso_8601_year_and_week_number.Goals as goal
use Rattle.week.proofs.iso_8601_year_and_week_number.Goals.{Start}

-- an answer back from the original's numbers
abbrev back : YearAndWeek → IsoWeek
back r = record { year = r.year; week = nat_abs r.week }

once : (s : Start) → Restarts s.args.year s.args.week_day s.args.year_day_1 1
once s =
    record {
      small = s.requires.0;
      from = omega arith;
      to = omega arith;
      few = omega arith;
      near = omega (arith, s.ranges.year.sfits);
    }

pub start_of_first_week-start-requires : goal.start_of_first_week-start-requires
start_of_first_week-start-requires c = (c.requires.0, omega (arith, days_to c.args.year))

pub overflow_add-year_day : goal.overflow_add-year_day
overflow_add-year_day c = omega (arith, days_to c.args.year)

pub overflow_add-week : goal.overflow_add-week
overflow_add-week c = omega (arith, days_to c.args.year)

pub overflow_cast-result : goal.overflow_cast-result
overflow_cast-result c = widens _ c.ranges.year

pub returns-then-week-lt52 : goal.returns-then-week-lt52
returns-then-week-lt52 c =
    let a = c.args in
    let p = c.requires in
    let q = c.start_of_first_week-start.ensures in
    ap (λ (y : ℤ). record { year = y; week = (a.year_day_1 - 1 + 14 - c.start_of_first_week-start.result) / 7 }) (widened _ c.ranges.year)
    ∙ ap back
    (below_52 _ _ _ _ (week_one_lem _ _ _ _ _ (once (goal.at.returns-then-week-lt52 c).Start) q) c.if-week-lt52.true
    ∙ begun _ _ _ _ _ (once (goal.at.returns-then-week-lt52 c).Start) q c.if-start-year_day.true
    ∙ iso_original a.year a.week_day a.year_day_1 p.0 p.1 p.2)

pub overflow_cast-year : goal.overflow_cast-year
overflow_cast-year c = widens _ c.ranges.year

pub year_and_week_number-requires : goal.year_and_week_number-requires
year_and_week_number-requires c =
    subst⁻¹ (λ (z : ℤ). Restarts z c.args.week_day c.args.year_day_1 1) (widened _ c.ranges.year) (once (goal.at.year_and_week_number-requires c).Start)

pub returns : goal.returns
returns c =
    let a = c.args in
    let p = c.requires in
    ap back
    (c.year_and_week_number.ensures
    ∙ ap (λ (z : ℤ). iso8601_year_and_week_number 1 z (pos a.week_day) (pos a.year_day_1)) (widened _ c.ranges.year)
    ∙ iso_original a.year a.week_day a.year_day_1 p.0 p.1 p.2)
