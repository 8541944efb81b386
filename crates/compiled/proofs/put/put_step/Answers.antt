-- Three bytes.
use Rattle.text.proofs.RanLaws.{said}
use Rattle.compiled.proofs.SectionLaws.{step_bytes}
use Rattle.compiled.proofs.put.put_step.Goals as goal

pub returns : goal.returns
returns c = λ limit. said (step_bytes _ _ c.to_le_bytes.ensures) (c.put.ensures limit)
