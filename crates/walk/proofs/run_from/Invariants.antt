-- The loop keeps `Walked`; each turn is one of its steps.
use Prim.Native.Nat.{◌-◌}
use lib.ListN.{length}
use Rattle.walk.proofs.WalkLaws.{Walked}
use Rattle.walk.proofs.run_from.Given as goal

abbrev pub invariant-loop-i : goal.invariant-loop-i
invariant-loop-i l = Walked l.limit l.room l.record l.zone l.format l.from l.start l.initial.out l.i l.out l.at

abbrev pub decreases-loop-i : goal.decreases-loop-i
decreases-loop-i l = length l.format - l.i
