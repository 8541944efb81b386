-- What is left, from the width so far, is read as the whole is from the first digit.
use mathlib.Core.Path.{◌≡◌}
use Prim.Native.Nat.{◌≤◌, max}
use lib.ListN.{length, drop}
use Rattle.rules.specs.declared.Reading.TheVariants.{InWidth}
use Rattle.rules.specs.Format.{parse_from}
use Rattle.reading.proofs.parse_width.Given as goal

abbrev pub invariant-loop-at : goal.invariant-loop-at
invariant-loop-at l = (parse_from (InWidth l.options l.width) l.at (drop l.at l.format) ≡ parse_from (InWidth l.options l.first) l.start (drop l.start l.format)) × (l.at ≤ max l.start (length l.format))
