-- Each arm is the text of the two tests that led there.
use borrow.Author.Tests.{lt-ltb, le-ltb}
use Rattle.names.proofs.calendar.meridian.Goals as goal

pub returns-then-upper : goal.returns-then-upper
returns-then-upper c = simp (lt-ltb _ _ c.if-hour-lt12.true, c.if-upper.true)

pub returns-else-upper : goal.returns-else-upper
returns-else-upper c = simp (lt-ltb _ _ c.if-hour-lt12.true, c.if-upper.false)

pub returns-then-upper-2 : goal.returns-then-upper-2
returns-then-upper-2 c = simp (le-ltb _ _ c.if-hour-lt12.false, c.if-upper-2.true)

pub returns-else-upper-2 : goal.returns-else-upper-2
returns-else-upper-2 c = simp (le-ltb _ _ c.if-hour-lt12.false, c.if-upper-2.false)
