-- The outcomes of a turn, each by the tests that lead to it, and what the parser makes of them at a position.
use Rattle.std.specs.Prelude.{Option, Some, None}
use mathlib.Core.Path.{◌≡◌, refl, ◌∙◌}
use mathlib.Core.Bool.{Bool, true, false, cond}
use mathlib.Core.List.{List, ◌∷◌}
use Prim.Native.Nat.{ℕ, ◌+◌, ◌-◌, ◌≤◌, ◌<◌, min}
use native.Mathlib.Numerals.{add-one}
use native.Mathlib.Omega.{arith}
use lib.ListN.{length, get_or, drop, drop_of_length-le}
use lib.Seq.{drop-cons}
use borrow.Author.Tests.{eq-eqb, ne_eqb, le-leb, lt-leb}
use Rattle.rules.specs.declared.Spec.{Spec}
use Rattle.rules.specs.declared.Options.{Options}
use Rattle.rules.specs.declared.Modifier.{Modifier}
use Rattle.rules.specs.declared.Modifier.TheVariants.{E, O}
use Rattle.rules.specs.declared.Reading.{Reading}
use Rattle.rules.specs.declared.Reading.TheVariants.{InFlags, InWidth, AtModifier, InColons}
use Rattle.rules.specs.declared.Turn.{Turn}
use Rattle.rules.specs.declared.Turn.TheVariants.{More, Unread}
use Rattle.rules.specs.declared.Parsed.TheVariants.{Echo, Cut}
use Rattle.rules.specs.Reading.{on_flag, is_digit, digit_of, width_with, too_wide, member, modified, spec_of, on_entry, on_letter, on_colons, turn, open?}
use Rattle.rules.specs.Format.{parse_from}
use Rattle.rules.proofs.RecordLaws.{ends}
use Rattle.reading.specs.Stages.{flag_turn, entered, colon_entry, turned}

module _ (format : List ℕ) (at : ℕ) where
  pub drop_next : at < length format → drop at format ≡ get_or format at 0 ∷ drop (at + 1) format
  drop_next h = rw (add-one, drop-cons format at 0)

  -- what is read from a byte on is told by its turn
  pub by_turn : (r : Reading) → at < length format → (t : Turn) → t ≡ turn r (get_or format at 0) → turned format at t ≡ parse_from r at (drop at format)
  unfolding parse_from
  by_turn r h t e = rw (drop_next h, e)

  pub at_end : (r : Reading) → length format ≤ at → (t : Bool) → open? r ≡ t → cond t Cut (Echo at) ≡ parse_from r at (drop at format)
  unfolding parse_from
  at_end r h t e = rw (drop_of_length-le format h, e)

  pub same_turn : (t t' : Turn) → t ≡ t' → turned format at t ≡ turned format at t'
  same_turn t t' e = rw e

  -- an entry of the table, where it is what the turn finds
  pub by_entry : (o : Options) (w : Option ℕ) (skipped : Bool) (e e' : Option Spec) → e ≡ e' → (t : Turn) → on_entry o w skipped e' ≡ t → entered o w skipped e (at + 1) ≡ turned format at t
  by_entry o w skipped e e' k t h = rw (k, ← h) (go e')
    where
      go : (x : Option Spec) → entered o w skipped x (at + 1) ≡ turned format at (on_entry o w skipped x)
      go (Some s) = refl
      go None = refl

entry_cond : (o : Options) (w : Option ℕ) (skipped t : Bool) (x y : Option Spec) → on_entry o w skipped (cond t x y) ≡ cond t (on_entry o w skipped x) (on_entry o w skipped y)
entry_cond o w skipped true x y = refl
entry_cond o w skipped false x y = refl

module _ (o : Options) (b : ℕ) where
  module _ (s : Option Options) (says : (other : Turn) → flag_turn s other ≡ on_flag o b other) where
    pub flags_flag : (n : Options) → s ≡ Some n → More (InFlags n) ≡ turn (InFlags o) b
    unfolding turn
    flags_flag n e = rw e at (says (cond (is_digit b) (More (InWidth o (digit_of b))) (on_letter o None b)))

    module _ (e : s ≡ None) where
      flags_other : (other : Turn) → other ≡ on_flag o b other
      flags_other other = rw e at (says other)

      pub flags_digit : is_digit b ≡ true → (v : ℕ) → v ≡ width_with 0 b → More (InWidth o v) ≡ turn (InFlags o) b
      unfolding turn
      flags_digit d v k =
          let h = ends 48 57 b d in
          let q : v ≡ b - 48 = k ∙ omega arith in
          rw (d, q) (flags_other (More (InWidth o (digit_of b))))

      pub flags_letter : is_digit b ≡ false → on_letter o None b ≡ turn (InFlags o) b
      unfolding turn
      flags_letter d = rw d (flags_other (on_letter o None b))

  module _ (v : ℕ) where
    pub width_digit : is_digit b ≡ true → (n : ℕ) → n ≡ width_with v b → More (InWidth o n) ≡ turn (InWidth o v) b
    unfolding turn
    width_digit d n e = rw (d, e)

    module _ (d : is_digit b ≡ false) where
      pub width_wide : too_wide v ≡ true → Unread ≡ turn (InWidth o v) b
      unfolding turn
      width_wide e = rw (d, e)

      pub width_letter : too_wide v ≡ false → on_letter o (Some v) b ≡ turn (InWidth o v) b
      unfolding turn
      width_letter e = rw (d, e)

  module _ (w : Option ℕ) where
    module _ (m : Modifier) where
      pub modifier_skipped : member b (modified m) ≡ true → on_entry o w true (spec_of b) ≡ turn (AtModifier o w m) b
      unfolding turn
      modifier_skipped e = rw e

      pub modifier_stays : member b (modified m) ≡ false → Unread ≡ turn (AtModifier o w m) b
      unfolding turn
      modifier_stays e = rw e

    module _ (colons : ℕ) where
      pub colons_more : b ≡ 58 → (n : ℕ) → n ≡ min (colons + 1) 4 → More (InColons o w n) ≡ turn (InColons o w colons) b
      unfolding turn
      colons_more e n k = rw (eq-eqb b 58 e, k)

      module _ (n : b ≡ 58 → ⊥) where
        pub colons_offset : b ≡ 122 → on_entry o w false (colon_entry colons) ≡ turn (InColons o w colons) b
        unfolding turn on_colons colon_entry
        colons_offset e = rw (ne_eqb b 58 n, eq-eqb b 122 e) (simp entry_cond)

        pub colons_other : (b ≡ 122 → ⊥) → Unread ≡ turn (InColons o w colons) b
        unfolding turn
        colons_other e = rw (ne_eqb b 58 n, ne_eqb b 122 e)

    pub letter_colon : b ≡ 58 → More (InColons o w 1) ≡ on_letter o w b
    unfolding on_letter
    letter_colon e = rw (eq-eqb b 58 e)

    pub letter_e : b ≡ 69 → More (AtModifier o w E) ≡ on_letter o w b
    unfolding on_letter
    letter_e e = rw e

    pub letter_o : b ≡ 79 → More (AtModifier o w O) ≡ on_letter o w b
    unfolding on_letter
    letter_o e = rw e

    module _ (n : b ≡ 58 → ⊥) (n₁ : b ≡ 69 → ⊥) (n₂ : b ≡ 79 → ⊥) where
      pub letter_high : 128 ≤ b → Unread ≡ on_letter o w b
      unfolding on_letter
      letter_high h = rw (ne_eqb b 58 n, ne_eqb b 69 n₁, ne_eqb b 79 n₂, le-leb 128 b h)

      pub letter_entry : b < 128 → on_entry o w false (spec_of b) ≡ on_letter o w b
      unfolding on_letter
      letter_entry h = rw (ne_eqb b 58 n, ne_eqb b 69 n₁, ne_eqb b 79 n₂, lt-leb 128 b h)
