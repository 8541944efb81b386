-- What is left of the directives answers as all of them do.
use mathlib.Core.Path.{◌≡◌}
use Prim.Native.Nat.{◌+◌, ◌-◌, ◌*◌}
use lib.ListN.{drop}
use Rattle.rules.specs.Stored.{entries_taken}
use Rattle.sections.proofs.entries_taken.Given as goal

abbrev pub invariant-loop-index : goal.invariant-loop-index
invariant-loop-index l = entries_taken (l.count - l.index) (drop (l.at + l.index * 8) l.s) ≡ entries_taken l.count (drop l.at l.s)
