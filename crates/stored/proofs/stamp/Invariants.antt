-- The loop keeps `Stamping`. A step that ends within the scratch is one of its turns; from any other, `rest` goes on. A step that isn't taken is 11.
use Prim.Native.Nat.{◌+◌, ◌*◌}
use Rattle.stored.proofs.StampLaws.{Stamping}
use Rattle.stored.proofs.stamp.Given as goal

abbrev pub invariant-loop-step : goal.invariant-loop-step
invariant-loop-step l = Stamping l.limit l.record l.zone l.stored l.initial.out l.initial.buffer (l.start + l.step * 3) l.from l.out l.buffer l.at
