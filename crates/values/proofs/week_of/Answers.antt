-- `week_of` asks for the week number where the check has shown what it requires.
use native.Mathlib.Omega.{arith}
use Rattle.rules.proofs.YearLaws.{days_to}
use Rattle.values.proofs.Laws.{week_range, in_week, not_in_week}
use Rattle.values.proofs.week_of.Goals as goal

pub week_number-requires : goal.week_number-requires
week_number-requires c =
    let r = c.args.«record» in
    let h = week_range r (in_week r c.week.ensures c.if-week.true) in
    (h.0, h.1, omega (arith, days_to r.year))

pub returns-then-week : goal.returns-then-week
returns-then-week c = λ h. c.week_number.ensures

pub returns-else-week : goal.returns-else-week
returns-else-week c = not_in_week _ c.week.ensures c.if-week.false
