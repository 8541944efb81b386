-- Each turn takes the last place away.
use mathlib.Core.Path.{◌≡◌, sym, ◌∙◌}
use Prim.Native.Nat.{ℕ, suc, ◌-◌, ◌/◌, ◌≤◌}
use native.Mathlib.Omega.{arith}
use lib.ListN.{take}
use lib.Seq.{take_all, take-append-le}
use Rattle.rules.specs.Decimal.{places}
use Rattle.rules.proofs.DecimalLaws.{length_places}
use Rattle.text.proofs.front_places.Goals as goal

one_fewer : (left k j n : ℕ) → left ≤ j → k ≡ suc j → take left (places k n) ≡ take left (places j (n / 10))
unfolding places
one_fewer left k j n h e = rw e (take-append-le left (places j (n / 10)) _ (omega (arith, length_places j (n / 10))))

pub loop-turn-preserved : goal.loop-turn-preserved
loop-turn-preserved c = c.loop-turn.invariant ∙ one_fewer _ _ _ _ (omega arith) (omega arith)

pub returns : goal.returns
returns c =
    let w = c.loop-turn in
    let e : c.args.count - (w._turn - c.args.left) ≡ c.args.left = omega arith in
    sym (w.invariant ∙ rw e (take_all c.args.left (places c.args.left w.n) (omega (arith, length_places c.args.left w.n))))
