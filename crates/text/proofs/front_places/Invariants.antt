-- Each turn takes the last place away.
use mathlib.Core.Path.{◌≡◌}
use Prim.Native.Nat.{◌-◌}
use lib.ListN.{take}
use Rattle.rules.specs.Decimal.{places}
use Rattle.text.proofs.front_places.Given as goal

abbrev pub invariant-loop-turn : goal.invariant-loop-turn
invariant-loop-turn l = take l.left (places l.count l.v) ≡ take l.left (places (l.count - (l._turn - l.left)) l.n)
