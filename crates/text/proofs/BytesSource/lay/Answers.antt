-- After i turns the first i bytes lie over out.
use native.Mathlib.Omega.{arith}
use Rattle.text.proofs.OverlayLaws.{laid_none, laid_more}
use Rattle.text.proofs.BytesSource.lay.Goals as goal

pub loop-i-init : goal.loop-i-init
loop-i-init c = laid_none

pub loop-i-preserved : goal.loop-i-preserved
loop-i-preserved c = laid_more c.loop-i.invariant (omega arith)
