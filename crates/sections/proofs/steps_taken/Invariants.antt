-- What is left of the steps answers as all of them do.
use mathlib.Core.Path.{◌≡◌}
use Prim.Native.Nat.{◌+◌, ◌-◌, ◌*◌}
use lib.ListN.{drop}
use Rattle.rules.specs.Stored.{steps_taken}
use Rattle.sections.proofs.steps_taken.Given as goal

abbrev pub invariant-loop-index : goal.invariant-loop-index
invariant-loop-index l = steps_taken (l.count - l.index) (drop (l.at + l.index * 3) l.s) l.directives l.left ≡ steps_taken l.count (drop l.at l.s) l.directives l.literals
