-- The loop's invariant: the places from at + left on are written, and what is left of v has yet to come. The measure is how many are left.
use Rattle.std.specs.Prelude.{◌+◌, ◌++◌, drop}
use Rattle.rules.specs.Decimal.{places}
use Rattle.numbers.proofs.PlacesLaws.{Written}
use Rattle.numbers.proofs.write_places.Given as goal

abbrev pub invariant-loop-left : goal.invariant-loop-left
invariant-loop-left l = Written l.initial.out l.out l.at l.left l.n (places l.count l.v ++ drop (l.at + l.count) l.initial.out)

abbrev pub decreases-loop-left : goal.decreases-loop-left
decreases-loop-left l = l.left
