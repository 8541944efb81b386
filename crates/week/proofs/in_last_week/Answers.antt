-- `in_last_week` makes the rules' tests without a negative number.
use mathlib.Core.Path.{◌≡◌, ap, ◌∙◌}
use Prim.Native.Nat.{◌≤◌}
use native.Mathlib.Omega.{arith}
use borrow.Author.Tests.{le-leb, lt-leb}
use mir.Syntax.{w64}
use mir.ValLaws.{to_z-of_z}
use Rattle.rules.specs.Calendar.{days_in}
use Rattle.rules.proofs.YearLaws.{days_from, days_to}
use Rattle.week.proofs.Outcomes.{by_last_monday, on_sunday, from_thursday}
use Rattle.week.proofs.in_last_week.Goals as goal
use Rattle.week.proofs.in_last_week.Goals.{After-days_in-last_year_day, else-week_day_of_last_year_day-ge1-via-then-week_day_of_last_year_day-ge1+else-week_day_of_last_year_day-le3, else-week_day_of_last_year_day-ge1-via-else-week_day_of_last_year_day-ge1}

days : (c : After-days_in-last_year_day) → c.days_in-last_year_day.result ≡ days_in c.args.year
days c = c.days_in-last_year_day.ensures ∙ ap days_in (to_z-of_z w64 _ c.ranges.year)

from : (c : After-days_in-last_year_day) → 365 ≤ c.days_in-last_year_day.result
from c = omega (arith, days c, days_from c.args.year)

to : (c : After-days_in-last_year_day) → c.days_in-last_year_day.result ≤ 366
to c = omega (arith, days c, days_to c.args.year)

pub overflow_sub-last_year_day : goal.overflow_sub-last_year_day
overflow_sub-last_year_day c = omega (arith, from (goal.at.overflow_sub-last_year_day c).After-days_in-last_year_day)

pub overflow_add-week_day_of_last_year_day : goal.overflow_add-week_day_of_last_year_day
overflow_add-week_day_of_last_year_day c = omega (arith, to (goal.at.overflow_add-week_day_of_last_year_day c).After-days_in-last_year_day, c.requires.small)

pub overflow_add-week_day_of_last_year_day-2 : goal.overflow_add-week_day_of_last_year_day-2
overflow_add-week_day_of_last_year_day-2 c = omega (arith, to (goal.at.overflow_add-week_day_of_last_year_day-2 c).After-days_in-last_year_day, c.requires.small)

pub overflow_sub-last_monday-then-week_day_of_last_year_day-le3 : goal.overflow_sub-last_monday-then-week_day_of_last_year_day-le3
overflow_sub-last_monday-then-week_day_of_last_year_day-le3 c = omega (arith, from (goal.at.overflow_sub-last_monday-then-week_day_of_last_year_day-le3 c).After-days_in-last_year_day)

pub returns-then-week_day_of_last_year_day-le3 : goal.returns-then-week_day_of_last_year_day-le3
returns-then-week_day_of_last_year_day-le3 c =
    let k = (goal.at.returns-then-week_day_of_last_year_day-le3 c).After-days_in-last_year_day in
    by_last_monday _ _ _ _ (days k) c.requires _ (omega (arith, from k)) (omega arith) (le-leb _ _ c.if-week_day_of_last_year_day-le3.true)

pub returns : goal.returns
returns c =
    let D = days (goal.at.returns c).After-days_in-last_year_day in
    elim c.else-week_day_of_last_year_day-ge1.branch [
      | else-week_day_of_last_year_day-ge1-via-then-week_day_of_last_year_day-ge1+else-week_day_of_last_year_day-le3 w ↦
          from_thursday _ _ _ _ D c.requires w.if-week_day_of_last_year_day-ge1.true (lt-leb _ _ w.if-week_day_of_last_year_day-le3.false)
      | else-week_day_of_last_year_day-ge1-via-else-week_day_of_last_year_day-ge1 w ↦ on_sunday _ _ _ _ D c.requires w.if-week_day_of_last_year_day-ge1.false
    ]
