-- The loop keeps `Copied`, and its place is as far on as its position.
use mathlib.Core.Path.{◌≡◌}
use Prim.Native.Nat.{◌+◌, ◌-◌}
use lib.ListN.{length}
use Rattle.walk.specs.Stamp.{Copied}
use Rattle.walk.proofs.copy_literal.Given as goal

abbrev pub invariant-loop-i : goal.invariant-loop-i
invariant-loop-i l = Copied l.format l.from l.initial.out l.place l.out l.i × (l.at ≡ l.place + (l.i - l.from))

abbrev pub decreases-loop-i : goal.decreases-loop-i
decreases-loop-i l = length l.format - l.i
