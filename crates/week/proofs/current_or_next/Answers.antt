-- `current_or_next` answers as the rules' `current_or_next`; the year is read back as it was written.
use mathlib.Core.Path.{ap, ◌∙◌, subst⁻¹}
use Prim.Native.Nat.{◌≤◌}
use native.Mathlib.Omega.{arith}
use lib.IntN.{ℤ, pos, ◌+ℤ◌}
use mir.Syntax.{w64}
use mir.ValLaws.{to_z-of_z}
use Rattle.rules.proofs.FloorLaws.{mag_inc}
use Rattle.rules.proofs.YearLaws.{days_to}
use Rattle.rules.proofs.OriginalWeek.{answer}
use Rattle.week.specs.Inner.{InYear}
use Rattle.week.proofs.Years.{step_asks, step_read}
use Rattle.week.proofs.Outcomes.{next_year, week_52, below_52}
use Rattle.week.proofs.current_or_next.Goals as goal
use Rattle.week.proofs.current_or_next.Goals.{Start}

to : (s : Start) → s.args.year_day ≤ 368
to s = omega (arith, s.requires.day.within, days_to s.args.year)

pub overflow_add-week_number : goal.overflow_add-week_number
overflow_add-week_number c = omega (arith, to (goal.at.overflow_add-week_number c).Start)

pub in_last_week-requires : goal.in_last_week-requires
in_last_week-requires c = subst⁻¹ (λ (z : ℤ). InYear z c.args.week_day c.args.year_day) (to_z-of_z w64 _ c.ranges.year) c.requires.day

pub overflow_add-result : goal.overflow_add-result
overflow_add-result c = step_asks (λ z. z +ℤ pos 1) mag_inc c.ranges.year c.requires.near

pub returns-then-in_last_week : goal.returns-then-in_last_week
returns-then-in_last_week c =
    ap (λ (z : ℤ). answer z 1) (step_read (λ z. z +ℤ pos 1) mag_inc c.ranges.year c.requires.near)
    ∙ next_year _ _ _ _ c.requires (omega arith) (cc (to_z-of_z w64 _ c.ranges.year))

pub overflow_cast-result : goal.overflow_cast-result
overflow_cast-result c = omega (arith, to (goal.at.overflow_cast-result c).Start)

pub returns : goal.returns
returns c = grind (arith, to_z-of_z, week_52, below_52, c.ranges.year)
