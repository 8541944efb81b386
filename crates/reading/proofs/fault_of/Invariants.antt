-- What is left of the format has the fault of all of it.
use mathlib.Core.Path.{◌≡◌}
use Prim.Native.Nat.{◌-◌}
use lib.ListN.{length, drop}
use Rattle.rules.specs.Format.{between, read, items, fault}
use Rattle.reading.proofs.fault_of.Given as goal

abbrev pub invariant-loop-at : goal.invariant-loop-at
invariant-loop-at l = fault (read between (drop l.at l.format)) ≡ fault (items l.format)

abbrev pub decreases-loop-at : goal.decreases-loop-at
decreases-loop-at l = length l.format - l.at
