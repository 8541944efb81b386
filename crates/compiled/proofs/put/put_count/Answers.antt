-- Two bytes.
use Rattle.text.proofs.RanLaws.{said}
use Rattle.compiled.proofs.SectionLaws.{low_two}
use Rattle.compiled.proofs.put.put_count.Goals as goal

pub returns : goal.returns
returns c = λ limit. said (low_two _ c.to_le_bytes-bytes.ensures) (c.put.ensures limit)
