-- The two letters are put.
use Rattle.text.proofs.RanLaws.{said}
use Rattle.names.proofs.calendar.put_meridian.Goals as goal

pub returns : goal.returns
returns c = λ limit. said c.meridian-text.ensures (c.put.ensures limit)
