-- The bytes that are laid already.
use lib.ListN.{take, drop}
use Rattle.text.proofs.OverlayLaws.{Laid}
use Rattle.stored.proofs.literals.lay.Given as goal

abbrev pub invariant-loop-k : goal.invariant-loop-k
invariant-loop-k l = Laid l.at (take l.count (drop l.from l.src)) l.initial.out l.k l.out
