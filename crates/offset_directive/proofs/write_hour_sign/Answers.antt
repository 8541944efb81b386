-- The sign is put.
use Rattle.text.proofs.RanLaws.{said}
use Rattle.offset_directive.proofs.write_hour_sign.Goals as goal

pub returns : goal.returns
returns c = λ limit. said c.hour_sign.ensures (c.put.ensures limit)
