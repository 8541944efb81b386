-- From each byte before the percent sign the run ends where it ends from the first.
use mathlib.Core.Path.{◌≡◌}
use Prim.Native.Nat.{◌≤◌, max}
use lib.ListN.{length}
use Rattle.reading.specs.Literals.{literal_end}
use Rattle.reading.proofs.literal_end.Given as goal

abbrev pub invariant-loop-at : goal.invariant-loop-at
invariant-loop-at l = (literal_end l.format l.at ≡ literal_end l.format l.from) × (l.at ≤ max l.from (length l.format))
