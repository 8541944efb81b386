-- The loop keeps `Scanned`; it ends at what is pending, or at the end of the text.
use Prim.Native.Nat.{◌-◌}
use lib.ListN.{length}
use Rattle.pending.proofs.ScanLaws.{Scanned}
use Rattle.pending.proofs.pending_from.Given as goal

abbrev pub invariant-loop-i : goal.invariant-loop-i
invariant-loop-i l = Scanned l.text l.i

abbrev pub decreases-loop-i : goal.decreases-loop-i
decreases-loop-i l = length l.text - l.i
