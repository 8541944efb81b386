-- `year_and_week_number` follows the function that the rules write down.
use mathlib.Core.Path.{◌≡◌, ap, ◌∙◌, subst⁻¹}
use Prim.Native.Nat.{ℕ, ◌+◌, ◌-◌, ◌≤◌, ◌^◌}
use native.Mathlib.Omega.{arith}
use lib.IntN.{ℤ, pos, ◌-ℤ◌}
use lib.Signed.{mag}
use mir.Syntax.{w64}
use mir.Val.{to_z, of_z}
use mir.ValLaws.{to_z-of_z}
use Rattle.rules.specs.Calendar.{days_in}
use Rattle.rules.specs.Week.{current_or_next, iso8601_year_and_week_number}
use Rattle.rules.proofs.FloorLaws.{mag_dec}
use Rattle.rules.proofs.YearLaws.{days_to}
use Rattle.week.specs.Inner.{FromWeekOne, Restarts}
use Rattle.week.proofs.Years.{step_asks, step_read}
use Rattle.week.proofs.Outcomes.{restarts_from, restarts_less, restarted, week_one_lem, begun}
use Rattle.week.proofs.+year_and_week_number.Goals as goal
use Rattle.week.proofs.+year_and_week_number.Goals.{After-days_in}

pub start_of_first_week-start_of_first_week-requires : goal.start_of_first_week-start_of_first_week-requires
start_of_first_week-start_of_first_week-requires t c = (c.requires.small, omega (arith, days_to c.args.year))

pub overflow_add-year_day : goal.overflow_add-year_day
overflow_add-year_day t c = omega (arith, days_to c.args.year)

near : (y : ℤ) (w d restarts : ℕ) → Restarts y w d restarts → mag y ≤ 2 ^ 31
near y w d restarts p = omega (arith, p.near)

pub overflow_sub-previous_year : goal.overflow_sub-previous_year
overflow_sub-previous_year t c = step_asks (λ z. z -ℤ pos 1) mag_dec c.ranges.year (near _ _ _ _ c.requires)

-- the year before, as it is read back, and its days
previous : (t : ℕ) (c : After-days_in t) → to_z w64 (of_z w64 (to_z w64 (of_z w64 c.args.year) -ℤ pos 1)) ≡ c.args.year -ℤ pos 1
previous t c = step_read (λ z. z -ℤ pos 1) mag_dec c.ranges.year (near _ _ _ _ c.requires)

days : (t : ℕ) (c : After-days_in t) → c.days_in.result ≡ days_in (c.args.year -ℤ pos 1)
days t c = c.days_in.ensures ∙ ap days_in (previous t c)

pub overflow_add-previous_year_day : goal.overflow_add-previous_year_day
overflow_add-previous_year_day t c =
    omega (arith, days t (goal.at.overflow_add-previous_year_day t c).After-days_in, days_to (c.args.year -ℤ pos 1), days_to c.args.year)

pub overflow_add-previous_year_day-then-year_day-start_of_first_week : goal.overflow_add-previous_year_day-then-year_day-start_of_first_week
overflow_add-previous_year_day-then-year_day-start_of_first_week t c =
    omega (arith, days t (goal.at.overflow_add-previous_year_day-then-year_day-start_of_first_week t c).After-days_in, days_to (c.args.year -ℤ pos 1), days_to c.args.year)

pub year_and_week_number-requires : goal.year_and_week_number-requires
year_and_week_number-requires t c =
    let k = (goal.at.year_and_week_number-requires t c).After-days_in in
    let q = c.start_of_first_week-start_of_first_week.ensures in
    let before = c.if-year_day-start_of_first_week.true in (
      omega (arith, restarts_from _ _ _ _ _ c.requires q before, c.decreases),
      subst⁻¹ (λ (z : ℤ). Restarts z c.args.week_day (c.days_in.result + (c.args.year_day_1 - 1) + 1) (c.args.restarts - 1)) (previous t k)
          (subst⁻¹ (λ (D : ℕ). Restarts (c.args.year -ℤ pos 1) c.args.week_day (D + (c.args.year_day_1 - 1) + 1) (c.args.restarts - 1)) (days t k)
          (restarts_less _ _ _ _ _ c.requires q before)),
    )

pub returns-then-year_day-start_of_first_week : goal.returns-then-year_day-start_of_first_week
returns-then-year_day-start_of_first_week t c =
    let k = (goal.at.returns-then-year_day-start_of_first_week t c).After-days_in in
    let a = c.args in
    c.year_and_week_number.ensures
    ∙ ap (λ (z : ℤ). iso8601_year_and_week_number (a.restarts - 1) z (pos a.week_day) (pos (c.days_in.result + (a.year_day_1 - 1) + 1))) (previous t k)
    ∙ ap (λ (D : ℕ). iso8601_year_and_week_number (a.restarts - 1) (a.year -ℤ pos 1) (pos a.week_day) (pos (D + (a.year_day_1 - 1) + 1))) (days t k)
    ∙ restarted _ _ _ _ _ c.requires c.start_of_first_week-start_of_first_week.ensures c.if-year_day-start_of_first_week.true

pub current_or_next-requires : goal.current_or_next-requires
current_or_next-requires t c =
    subst⁻¹ (λ (z : ℤ). FromWeekOne z c.args.week_day (c.args.year_day_1 - 1) c.start_of_first_week-start_of_first_week.result) (to_z-of_z w64 _ c.ranges.year)
    (week_one_lem _ _ _ _ _ c.requires c.start_of_first_week-start_of_first_week.ensures)

pub returns : goal.returns
returns t c =
    c.current_or_next.ensures
    ∙ ap (λ (z : ℤ). current_or_next z (pos c.args.week_day) (pos (c.args.year_day_1 - 1))) (to_z-of_z w64 _ c.ranges.year)
    ∙ begun _ _ _ _ _ c.requires c.start_of_first_week-start_of_first_week.ensures c.if-year_day-start_of_first_week.false
