-- What is left, from the colons so far, is read as the whole is from the first.
use mathlib.Core.Path.{◌≡◌}
use Prim.Native.Nat.{◌≤◌, max}
use lib.ListN.{length, drop}
use Rattle.rules.specs.declared.Reading.TheVariants.{InColons}
use Rattle.rules.specs.Format.{parse_from}
use Rattle.reading.proofs.parse_colons.Given as goal

abbrev pub invariant-loop-at : goal.invariant-loop-at
invariant-loop-at l = (parse_from (InColons l.options l.width l.colons) l.at (drop l.at l.format) ≡ parse_from (InColons l.options l.width 1) l.start (drop l.start l.format)) × (l.at ≤ max l.start (length l.format)) × (l.colons ≤ 4)
