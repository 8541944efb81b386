-- A directive adds nothing.
use Rattle.text.proofs.RanLaws.{nothing}
use Rattle.compiled.specs.Sections.{piece_events}
use Rattle.compiled.proofs.put.LiteralsSection.put_piece.Goals as goal

pub returns : goal.returns
unfolding piece_events
returns c = λ limit. nothing
