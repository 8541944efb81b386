-- After i turns the first i bytes lie over out.
use Rattle.text.proofs.OverlayLaws.{Laid}
use Rattle.text.proofs.BytesSource.lay.Given as goal

abbrev pub invariant-loop-i : goal.invariant-loop-i
invariant-loop-i l = Laid l.at l.fn.self.0.now l.initial.out l.i l.out
