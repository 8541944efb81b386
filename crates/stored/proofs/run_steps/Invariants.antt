-- The loop keeps `Walked`; each turn is one of its steps.
use Prim.Native.Nat.{◌+◌, ◌*◌}
use Rattle.stored.proofs.StepLaws.{Walked}
use Rattle.stored.proofs.run_steps.Given as goal

abbrev pub invariant-loop-n : goal.invariant-loop-n
invariant-loop-n l = Walked l.limit l.room l.record l.zone l.stored l.step l.literal l.initial.out l.place (l.step + l.n * 3) l.from l.out l.at
