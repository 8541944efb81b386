-- `is_leap_year` tests remainders with the year's sign, the rules floor remainders: they are 0 alike.
use Rattle.week.proofs.Years.{leap_by_400, leap_by_4, leap_not}
use Rattle.week.proofs.is_leap_year.Goals as goal

pub returns-then-year-eq0 : goal.returns-then-year-eq0
returns-then-year-eq0 c = leap_by_400 c.ranges.year c.if-year-eq0.true

pub returns-then-year-eq0-2 : goal.returns-then-year-eq0-2
returns-then-year-eq0-2 c = leap_by_4 c.ranges.year c.if-year-eq0.false c.if-year-eq0-2.true

pub returns-else-year-eq0-2 : goal.returns-else-year-eq0-2
returns-else-year-eq0-2 c = leap_not c.ranges.year c.if-year-eq0.false c.if-year-eq0-2.false
