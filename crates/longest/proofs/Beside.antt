-- Events that stand beside others: the same, up to a check that fails with an allowed number. If those fit, these are done or refused so.
use mathlib.Core.Path.{◌≡◌, refl}
use mathlib.Core.Bool.{true, false}
use mathlib.Core.List.{List, [], ◌∷◌, ◌++◌}
use mathlib.Core.Logic.{◌⊎◌, inl, inr}
use Prim.Native.Nat.{ℕ, ◌+◌, ◌≤◌}
use native.Mathlib.Omega.{arith}
use Rattle.rules.specs.declared.Piece.{Piece}
use Rattle.rules.specs.Event.{Event, write, check, write_length, text_of, length_of, Count, at, no, one, tally, done, refused, outcome_of, run, Holds}
use Rattle.rules.specs.Format.{Item, literal, echo, directive, cut, item_events, events}
use Rattle.rules.proofs.EventLaws.{write_fits}
use Rattle.longest.proofs.Fitting.{Ends, ends_no}

pub data Beside (Allowed : ℕ → Type 0) : List Event → List Event → Type 0 where
  both_end : Beside Allowed [] []
  same : {e : Event} {xs ys : List Event} → Beside Allowed xs ys → Beside Allowed (e ∷ xs) (e ∷ ys)
  fails : {number : ℕ} {xs ys : List Event} → Allowed number → Beside Allowed (check false number ∷ xs) ys

pub beside_self : {Allowed : ℕ → Type 0} (es : List Event) → Beside Allowed es es
beside_self [] = both_end
beside_self (e ∷ es) = same (beside_self es)

pub beside_join : {Allowed : ℕ → Type 0} {xs ys vs ws : List Event} → Beside Allowed xs ys → Beside Allowed vs ws → Beside Allowed (xs ++ vs) (ys ++ ws)
beside_join both_end k = k
beside_join (same h) k = same (beside_join h k)
beside_join (fails a) k = fails a

-- of whole formats, if it is so of each piece
module _ {Allowed : ℕ → Type 0} (f g : Piece → List Event) (h : (p : Piece) → Beside Allowed (f p) (g p)) where
  item_beside : (i : Item) → Beside Allowed (item_events f i) (item_events g i)
  unfolding item_events
  item_beside (literal b) = beside_self _
  item_beside (echo text) = beside_self _
  item_beside (directive p) = h p
  item_beside cut = beside_self _

  pub events_beside : (is : List Item) → Beside Allowed (events f is) (events g is)
  unfolding events
  events_beside [] = both_end
  events_beside (i ∷ is) = beside_join (item_beside i) (events_beside is)

module _ (limit room : ℕ) where
  tally_beside : {Allowed : ℕ → Type 0} {xs ys : List Event} (n : ℕ) → Beside Allowed xs ys → Holds ys → n + length_of ys ≤ room → n + length_of ys ≤ limit → Ends Allowed (tally limit room xs (at n))
  unfolding tally one length_of Holds
  tally_beside n both_end h r l = tt
  tally_beside {Allowed} n (same {e = write w} {xs} m) h r l =
      rw (write_fits limit room w n (omega arith) (omega arith)) (tally_beside (n + write_length w) m h (omega arith) (omega arith))
  tally_beside n (same {e = check true number} m) h r l = tally_beside n m h.1 r l
  tally_beside n (same {e = check false number} m) h r l = let z : ◌≡◌ {A = ℕ} 0 1 = cc h.0 in absurd (omega arith)
  tally_beside {Allowed} n (fails {number} {xs} a) h r l = ends_no limit room Allowed xs number n a

  pub run_beside : {Allowed : ℕ → Type 0} {xs ys : List Event} → Beside Allowed xs ys → Holds ys → length_of ys ≤ room → length_of ys ≤ limit → (run limit room xs ≡ done (text_of xs)) ⊎ ((number : ℕ) × (Allowed number × (run limit room xs ≡ refused number)))
  unfolding run
  run_beside {Allowed} {xs} m h r l = go (tally limit room xs (at 0)) (tally_beside 0 m h (omega arith) (omega arith))
    where
      go : (c : Count) → Ends Allowed c → (outcome_of c (text_of xs) ≡ done (text_of xs)) ⊎ ((number : ℕ) × (Allowed number × (outcome_of c (text_of xs) ≡ refused number)))
      go (at n) e = inl refl
      go (no number n) e = inr (number, (e, refl))
