-- The year's first day, the days before the month, and the day.
use Prim.Native.Nat.{◌+◌, ◌-◌, ◌<◌, ◌≤◌}
use native.Mathlib.Omega.{arith}
use mir.Syntax.{w64}
use mir.ValLaws.{to_z-of_z}
use Rattle.rules.proofs.Shift.{Is}
use Rattle.calendar.specs.Inner.{found, missing}
use Rattle.numbers.proofs.Signed.{widened}
use Rattle.calendar.proofs.DateLaws.{YearIs, year_is, starts_to, not_there, the_day}
use Rattle.calendar.proofs.day_at.Goals as goal
use Rattle.calendar.proofs.day_at.Goals.{After-days_of, After-days_of-start, After-raised-z, Else-day-lt1}

within : (c : Else-day-lt1) → let a = c.args in (1 ≤ a.month) × (a.month ≤ 12) × (1 ≤ a.day)
within c = (omega arith, omega arith, omega arith)

z_is : (c : After-raised-z) → Is c.args.year 292279999999 c.raised-z.result
z_is c = rw (widened _ c.ranges.year) at c.raised-z.ensures.0

year : (c : After-days_of) → let s = c.days_of-start.result in YearIs c.raised-z.result s (c.days_of.result - s - 365) × (s + 365 ≤ c.days_of.result)
year c = year_is _ _ _ c.days_of-start.ensures c.days_of.ensures

start_small : (c : After-days_of-start) → c.days_of-start.result < 214000000000000
start_small c = omega (arith, c.days_of-start.ensures, starts_to c.raised-z.result, c.raised-z.ensures.1)

pub returns-then-month-lt1 : goal.returns-then-month-lt1
returns-then-month-lt1 c = missing (λ x. omega arith)

pub overflow_sub-leap : goal.overflow_sub-leap
overflow_sub-leap c = omega (arith, (year (goal.at.overflow_sub-leap c).After-days_of).1)

pub overflow_sub-leap-2 : goal.overflow_sub-leap-2
overflow_sub-leap-2 c = omega (arith, (year (goal.at.overflow_sub-leap-2 c).After-days_of).1)

pub month_start-before-requires : goal.month_start-before-requires
month_start-before-requires c = let w = within (goal.at.month_start-before-requires c).Else-day-lt1 in (w.0, omega (arith, w.1), (year (goal.at.month_start-before-requires c).After-days_of).0.few)

pub month_start-requires : goal.month_start-requires
month_start-requires c = let w = within (goal.at.month_start-requires c).Else-day-lt1 in (omega arith, omega (arith, w.1), (year (goal.at.month_start-requires c).After-days_of).0.few)

pub returns-then-before-d : goal.returns-then-before-d
returns-then-before-d c =
    let w = within (goal.at.returns-then-before-d c).Else-day-lt1 in
    let y = year (goal.at.returns-then-before-d c).After-days_of in
    missing (not_there (z_is (goal.at.returns-then-before-d c).After-raised-z) y.0 w.0 w.1 c.month_start-before.ensures.0 c.month_start.ensures.0 c.if-before-d.true)

pub overflow_add-start : goal.overflow_add-start
overflow_add-start c = omega (arith, start_small (goal.at.overflow_add-start c).After-days_of-start)

pub overflow_add-start-2 : goal.overflow_add-start-2
overflow_add-start-2 c = omega (arith, start_small (goal.at.overflow_add-start-2 c).After-days_of-start)

pub overflow_sub-start : goal.overflow_sub-start
overflow_sub-start c = omega (arith, (within (goal.at.overflow_sub-start c).Else-day-lt1).2)

pub lowered-requires : goal.lowered-requires
lowered-requires c = (omega (arith, start_small (goal.at.lowered-requires c).After-days_of-start), omega arith)

pub returns : goal.returns
returns c =
    let w = within (goal.at.returns c).Else-day-lt1 in
    let y = year (goal.at.returns c).After-days_of in
    rw (to_z-of_z w64 _ (record { sfits = c.lowered.type_inv }))
    (found (the_day (z_is (goal.at.returns c).After-raised-z) y.0 w.0 w.1 c.month_start-before.ensures.0 c.month_start.ensures.0 w.2 c.if-before-d.false c.lowered.ensures))
