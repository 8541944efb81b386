-- The loop keeps that the bytes so far stand for themselves.
use Prim.Native.Nat.{◌-◌}
use lib.ListN.{length}
use Rattle.compiled.specs.Parts.{TextTo}
use Rattle.compiled.proofs.parts.text_end.Given as goal

abbrev pub invariant-loop-end : goal.invariant-loop-end
invariant-loop-end l = TextTo l.format l.i l.end

abbrev pub decreases-loop-end : goal.decreases-loop-end
decreases-loop-end l = length l.format - l.end
