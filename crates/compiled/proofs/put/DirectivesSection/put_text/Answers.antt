-- Bytes that stand for themselves add nothing.
use Rattle.text.proofs.RanLaws.{nothing}
use Rattle.compiled.specs.Sections.{text_events}
use Rattle.compiled.proofs.put.DirectivesSection.put_text.Goals as goal

pub returns : goal.returns
unfolding text_events
returns c = λ limit. nothing
