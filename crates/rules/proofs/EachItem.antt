-- What holds of each item that a format is read as, from what holds of the state between any two of its bytes.
use mathlib.Core.Path.{subst⁻¹}
use mathlib.Core.List.{List, [], ◌∷◌, ◌++◌, Memᴰ}
use Prim.Native.Nat.{ℕ, suc}
use lib.ListN.{length}
use Rattle.rules.specs.Format.{Item, State, step, ending, read}

module _ (Good : Item → Type 0) where
  abbrev pub AllItems : List Item → Type 0
  AllItems [] = Unit {0}
  AllItems (i ∷ is) = Good i × AllItems is

  pub all_join : (xs ys : List Item) → AllItems xs → AllItems ys → AllItems (xs ++ ys)
  all_join [] ys h k = k
  all_join (x ∷ xs) ys h k = (h.0, all_join xs ys h.1 k)

  pub all_member : (is : List Item) {i : Item} → AllItems is → Memᴰ i is → Good i
  all_member [] h m = elim m [ ]
  all_member (x ∷ is) h (Memᴰ.head e) = subst⁻¹ Good e h.0
  all_member (x ∷ is) h (Memᴰ.tail m) = all_member is h.1 m

  -- Holds n state: what holds of a state with n bytes left
  pub all_read : (Holds : ℕ → State → Type 0) →
      ((left : ℕ) (state : State) (b : ℕ) → Holds (suc left) state → AllItems (step state b).settles × Holds left (step state b).to) →
      ((state : State) → Holds 0 state → AllItems (ending state)) →
      (state : State) (bytes : List ℕ) → Holds (length bytes) state → AllItems (read state bytes)
  unfolding read
  all_read Holds one_byte the_end state [] h = the_end state h
  all_read Holds one_byte the_end state (b ∷ bytes) h =
      let s = one_byte (length bytes) state b h in
      all_join (step state b).settles (read (step state b).to bytes) s.0 (all_read Holds one_byte the_end (step state b).to bytes s.1)
