-- The formula on each side of March 1.
use borrow.Author.Tests.{lt-ltb, le-ltb}
use Rattle.rules.proofs.Dates.{month_at, month_at_lem}
use Rattle.calendar.proofs.month_at.Goals as goal

pub returns-then-x-march : goal.returns-then-x-march
unfolding month_at
returns-then-x-march c = rw (lt-ltb _ _ c.if-x-march.true) at (month_at_lem _ _ c.requires.1 c.requires.0)

pub returns-else-x-march : goal.returns-else-x-march
unfolding month_at
returns-else-x-march c = rw (le-ltb _ _ c.if-x-march.false) at (month_at_lem _ _ c.requires.1 c.requires.0)
