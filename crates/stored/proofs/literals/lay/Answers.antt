-- The bytes that are laid already.
use Rattle.text.proofs.OverlayLaws.{laid_none}
use Rattle.stored.proofs.CopyLaws.{part_more}
use Rattle.stored.proofs.literals.lay.Goals as goal

pub loop-k-init : goal.loop-k-init
loop-k-init c = laid_none

pub loop-k-preserved : goal.loop-k-preserved
loop-k-preserved c = part_more _ _ _ c.loop-k.invariant c.requires.1 c.loop-k-test.true
