-- The loop keeps `Stamping`. An item that ends within the scratch is one of its steps; from any other, `rest` goes on.
use Prim.Native.Nat.{◌-◌}
use lib.ListN.{length}
use Rattle.walk.proofs.StampLaws.{Stamping}
use Rattle.walk.proofs.stamp.Given as goal

abbrev pub invariant-loop-i : goal.invariant-loop-i
invariant-loop-i l = Stamping l.limit l.record l.zone l.format l.initial.out l.initial.buffer l.i l.out l.buffer l.at

abbrev pub decreases-loop-i : goal.decreases-loop-i
decreases-loop-i l = length l.format - l.i
