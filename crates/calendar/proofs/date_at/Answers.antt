-- The year, the month and the day, each from the days that are left.
use Prim.Native.Nat.{◌+◌, ◌-◌, ◌<◌, ◌≤◌}
use native.Mathlib.Omega.{arith}
use mir.Syntax.{w64}
use mir.ValLaws.{to_z-of_z}
use Rattle.rules.proofs.Shift.{Is}
use Rattle.calendar.proofs.DateLaws.{YearIs, year_is, inside, few_years, small, date_for}
use Rattle.calendar.proofs.date_at.Goals as goal
use Rattle.calendar.proofs.date_at.Goals.{After-days_of, After-month_start, After-raised-n, After-year_at-z}

n_is : (c : After-raised-n) → Is c.args.day 106753078619162 c.raised-n.result
n_is c = rw (to_z-of_z w64 _ c.ranges.day) at c.raised-n.ensures.0

few : (c : After-year_at-z) → c.year_at-z.result < 600000000000
few c = omega (arith, few_years c.year_at-z.ensures, c.raised-n.ensures.1)

year : (c : After-days_of) → let s = c.days_of-start.result in YearIs c.year_at-z.result s (c.days_of.result - s - 365) × (s + 365 ≤ c.days_of.result)
year c = year_is _ _ _ c.days_of-start.ensures c.days_of.ensures

day_small : (c : After-month_start) → let x = c.raised-n.result - c.days_of-start.result in
    (c.month_start.result ≤ x) × (x - c.month_start.result + 1 ≤ 31)
day_small c = small (year_is _ _ _ c.days_of-start.ensures c.days_of.ensures).0.few c.month_at-m.ensures c.month_start.ensures.0

pub days_of-start-requires : goal.days_of-start-requires
days_of-start-requires c = omega (arith, few (goal.at.days_of-start-requires c).After-year_at-z)

pub overflow_add-z : goal.overflow_add-z
overflow_add-z c = omega (arith, few (goal.at.overflow_add-z c).After-year_at-z)

pub days_of-requires : goal.days_of-requires
days_of-requires c = omega (arith, few (goal.at.days_of-requires c).After-year_at-z)

pub overflow_sub-leap-2 : goal.overflow_sub-leap-2
overflow_sub-leap-2 c = omega (arith, (year (goal.at.overflow_sub-leap-2 c).After-days_of).1)

pub month_at-m-requires : goal.month_at-m-requires
month_at-m-requires c = ((inside (year (goal.at.month_at-m-requires c).After-days_of).0 c.year_at-z.ensures).1, (year (goal.at.month_at-m-requires c).After-days_of).0.few)

pub month_start-requires : goal.month_start-requires
month_start-requires c = let m = c.month_at-m.ensures in (m.from, omega (arith, m.to), (year (goal.at.month_start-requires c).After-days_of).0.few)

pub overflow_cast-d : goal.overflow_cast-d
overflow_cast-d c = omega (arith, (day_small (goal.at.overflow_cast-d c).After-month_start).1)

pub overflow_cast-day_of_year : goal.overflow_cast-day_of_year
overflow_cast-day_of_year c =
    let y = (year (goal.at.overflow_cast-day_of_year c).After-days_of).0 in
    omega (arith, y.few, (inside y c.year_at-z.ensures).1)

pub lowered-requires : goal.lowered-requires
lowered-requires c = (omega (arith, few (goal.at.lowered-requires c).After-year_at-z), omega arith)

pub returns : goal.returns
returns c =
    rw (to_z-of_z w64 _ (record { sfits = c.lowered.type_inv }))
    (date_for (n_is (goal.at.returns c).After-raised-n) c.lowered.ensures c.year_at-z.ensures (year (goal.at.returns c).After-days_of).0 c.month_at-m.ensures c.month_start.ensures.0)
