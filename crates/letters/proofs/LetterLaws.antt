-- The answer for a letter and the answer that a byte is none: which it was, and what stays of the list.
use mathlib.Core.Path.{◌≡◌, ap}
use mathlib.Core.List.{List}
use mathlib.Core.Logic.{inl, inr}
use Prim.Native.Nat.{ℕ, ◌≤◌}
use native.Mathlib.Decide.{dec_lt}
use native.Mathlib.Omega.{arith}
use lib.ListN.{length, take}
use Rattle.rules.specs.declared.Record.{Record}
use Rattle.text.specs.Room.{Room}
use Rattle.text.proofs.PlaceLaws.{reach_no, count_no}
use Rattle.text.proofs.RanLaws.{still, reach_small, kept, before}
use Rattle.letters.specs.Letter.{RanLetter, not_a_letter, Lettered}

module _ {limit room b : ℕ} {r : Record} {zone l l' : List ℕ} {n n' : ℕ} where
  -- any other place is that of a letter
  pub was_letter : Lettered limit room b r zone l n l' n' → (n' ≡ not_a_letter → ⊥) → RanLetter limit room b r zone l n l' n'
  was_letter (inl w) f = w
  was_letter (inr h) f = absurd (f h.0)

  -- the answer that it is none comes with no byte: a letter's run from a place that isn't refused never comes so far
  pub left_alone : Lettered limit room b r zone l n l' n' → room ≤ 65536 → n' ≡ not_a_letter → l' ≡ l
  left_alone (inl w) h e =
      elim (dec_lt 65536 n) [
        | yes g ↦ still w.ran g
        | no g ↦ absurd (omega (arith, reach_small w.ran (omega arith) h, reach_no n' (count_no n' (omega arith))))
      ]
  left_alone (inr k) h e = k.1

  -- whatever the answer, the list is as long as it was, and the same before the place
  pub length_left : Lettered limit room b r zone l n l' n' → length l' ≡ length l
  length_left (inl w) = kept w.ran
  length_left (inr h) = ap length h.1

  pub room_left : Lettered limit room b r zone l n l' n' → Room l room → Room l' room
  room_left w h = record { within = omega (arith, length_left w, h.within); small = h.small }

  -- a place within the list is that of a letter
  pub ended_within : Lettered limit room b r zone l n l' n' → Room l room → n' ≤ length l' → RanLetter limit room b r zone l n l' n'
  ended_within w h g = was_letter w (λ e. omega (arith, length_left w, h.within, h.small))

  pub front_left : Lettered limit room b r zone l n l' n' → take n l' ≡ take n l
  front_left (inl w) = before w.ran
  front_left (inr h) = ap (take n) h.1
