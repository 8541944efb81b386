-- The number stands for the refusal.
use Rattle.text.proofs.JudgedLaws.{after_number}
use Rattle.text.proofs.refused_at.Goals as goal

pub returns : goal.returns
returns c = λ limit room l. after_number c.from.ensures (c.judged.ensures limit room l)
