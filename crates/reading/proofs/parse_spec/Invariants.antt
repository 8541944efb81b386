-- What is left, with the options so far, is read as the whole is from the outset.
use mathlib.Core.Path.{◌≡◌}
use lib.ListN.{drop}
use Rattle.rules.specs.declared.Reading.TheVariants.{InFlags}
use Rattle.rules.specs.Reading.{outset}
use Rattle.rules.specs.Format.{parse_from}
use Rattle.reading.proofs.parse_spec.Given as goal

abbrev pub invariant-loop-at : goal.invariant-loop-at
invariant-loop-at l = parse_from (InFlags l.options) l.at (drop l.at l.format) ≡ parse_from (InFlags outset) l.start (drop l.start l.format)
