-- What makes a format no valid one, by a walk over its positions.
use mathlib.Core.Path.{◌≡◌, refl, sym, ap, ◌∙◌}
use mathlib.Core.List.{List, [], ◌∷◌, ◌++◌, map}
use Prim.Native.Nat.{ℕ, ◌-◌}
use native.Mathlib.Omega.{arith}
use lib.ListN.{take, drop}
use Rattle.rules.specs.Format.{Item, literal, echo, directive, cut, between, read, fault}
use Rattle.reading.proofs.Positions.{Part, Last}

fault_join : (a b : List Item) → fault a ≡ 0 → fault (a ++ b) ≡ fault b
unfolding fault
fault_join [] b h = refl
fault_join (literal x ∷ a) b h = fault_join a b h
fault_join (echo text ∷ a) b h = fault_join a b h
fault_join (directive p ∷ a) b h = fault_join a b h
fault_join (cut ∷ a) b h = absurd (omega arith)

fault_literals : (bytes : List ℕ) → fault (map literal bytes) ≡ 0
unfolding fault
fault_literals [] = refl
fault_literals (b ∷ bytes) = fault_literals bytes

module _ (format : List ℕ) (i : ℕ) where
  -- what is left after a part with no fault has the fault of what was left before it
  pub fault_part : (found : List Item) (next : ℕ) → Part format i found next → fault found ≡ 0 → fault (read between (drop next format)) ≡ fault (read between (drop i format))
  fault_part found next part h = sym (ap fault part.items ∙ fault_join found (read between (drop next format)) h)

  pub fault_run : (e : ℕ) → Part format i (map literal (take (e - i) (drop i format))) e → fault (read between (drop e format)) ≡ fault (read between (drop i format))
  fault_run e part = fault_part (map literal (take (e - i) (drop i format))) e part (fault_literals (take (e - i) (drop i format)))

  pub fault_last : (found : List Item) → Last format i found → fault found ≡ fault (read between (drop i format))
  fault_last found last = ap fault (sym last.items)
