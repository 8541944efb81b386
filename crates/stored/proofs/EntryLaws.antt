-- The directive that 8 bytes are, for each way that it is written by.
use Rattle.std.specs.Prelude.{Some, None}
use mathlib.Core.Path.{◌≡◌, refl, sym, ap, subst, ◌∙◌}
use mathlib.Core.List.{List, [], ◌∷◌}
use Prim.Native.Nat.{ℕ, ◌/◌, ◌%◌, ◌<◌}
use native.Mathlib.Decide.{dec_lt}
use native.Mathlib.Omega.{arith}
use borrow.Author.Tests.{ne_eqb}
use lib.IntN.{pos}
use lib.ListN.{get_or}
use Rattle.rules.specs.declared.Piece.{Piece}
use Rattle.rules.specs.declared.Record.{Record}
use Rattle.rules.specs.declared.Spec.{Spec}
use Rattle.rules.specs.declared.Offset.TheVariants.{TimeZoneOffsetHourMinuteColon}
use Rattle.rules.specs.declared.Spec.TheVariants.{Offset as offset}
use Rattle.rules.specs.Decimal.{decimal_text}
use Rattle.rules.specs.Event.{put, Event, write}
use Rattle.rules.specs.Reading.{possible_specs, look_up, spec_of}
use Rattle.rules.specs.Writing.{spec_events, events_of}
use Rattle.rules.specs.Stored.{coded_spec, entry_of}
use Rattle.text.specs.Ran.{Ran}
use Rattle.text.proofs.RanLaws.{same_events}
use Rattle.printing.specs.Plain.{plain_piece}
use Rattle.letters.specs.Letter.{RanLetter}
use Rattle.letters.specs.Short.{left_piece, Short}
use Rattle.codes.specs.Eight.{Eight}

-- ## A letter

-- a byte that the table has not
none_has : (k : ℕ) {spec : Spec} → spec_of k ≡ None → spec_of k ≡ Some spec → ⊥
none_has k p q = let z : ◌≡◌ {A = ℕ} 0 1 = cc in omega arith

other_byte : {b : ℕ} {spec : Spec} (k : ℕ) → spec_of b ≡ Some spec → spec_of k ≡ None → b ≡ k → ⊥
other_byte k e m q = none_has k m (ap spec_of (sym q) ∙ e)

letter_some : (b : ℕ) {spec : Spec} → spec_of b ≡ Some spec → 0 < b
unfolding possible_specs look_up
letter_some b e =
    elim (dec_lt 0 b) [
      | yes h ↦ h
      | no h ↦ absurd (other_byte {b = b} 0 e refl (omega arith))
    ]

coded_letter : (b : ℕ) {spec : Spec} → spec_of b ≡ Some spec → coded_spec b ≡ Some spec
unfolding coded_spec possible_specs look_up
coded_letter b e =
    let p = ne_eqb b 1 (other_byte 1 e refl) in
    let q = ne_eqb b 2 (other_byte 2 e refl) in
    let r = ne_eqb b 3 (other_byte 3 e refl) in
    rw (p, q, r) e

-- ## What 8 bytes are

module _ {s : List ℕ} {n : ℕ} (w : Eight s n) where
  -- a code and zeros
  plain_entry : {spec : Spec} → n < 256 → coded_spec n ≡ Some spec → entry_of s ≡ plain_piece spec
  unfolding entry_of
  plain_entry {spec} h e =
      let c : get_or s 0 0 ≡ n = omega (arith, w.code) in
      let p : get_or s 1 0 ≡ 0 = omega (arith, w.padding) in
      let f : get_or s 2 0 ≡ 0 = omega (arith, w.flags) in
      let t : get_or s 3 0 ≡ 0 = omega (arith, w.there) in
      rw (c, p, f, t, e)

  -- a code and the left flag
  left_entry : {spec : Spec} → n / 256 ≡ 256 → coded_spec (n % 256) ≡ Some spec → entry_of s ≡ left_piece spec
  unfolding entry_of
  left_entry {spec} h e =
      let c : get_or s 0 0 ≡ n % 256 = omega (arith, w.code) in
      let p : get_or s 1 0 ≡ 0 = omega (arith, w.padding) in
      let f : get_or s 2 0 ≡ 1 = omega (arith, w.flags) in
      let t : get_or s 3 0 ≡ 0 = omega (arith, w.there) in
      rw (c, p, f, t, e)

-- ## Written

module _ (r : Record) (zone s : List ℕ) {limit room : ℕ} {l l' : List ℕ} {n n' : ℕ} where
  ran_as : {p : Piece} → entry_of s ≡ p → Ran limit room (spec_events p.spec p r zone) l n l' n' → Ran limit room (events_of r zone (entry_of s)) l n l' n'
  unfolding events_of
  ran_as e v = same_events (ap (events_of r zone) (sym e)) v

  pub by_letter : {b : ℕ} → (0 < b → Eight s b) → b < 256 → RanLetter limit room b r zone l n l' n' → Ran limit room (events_of r zone (entry_of s)) l n l' n'
  by_letter {b} w h v = ran_as (plain_entry (w (letter_some b v.entry)) h (coded_letter b v.entry)) v.ran

  pub by_colon : {e : ℕ} → Eight s e → e ≡ 1 → Ran limit room (spec_events (offset TimeZoneOffsetHourMinuteColon) (plain_piece (offset TimeZoneOffsetHourMinuteColon)) r zone) l n l' n' → Ran limit room (events_of r zone (entry_of s)) l n l' n'
  unfolding coded_spec
  by_colon w e v = ran_as (plain_entry w (omega arith) (ap coded_spec e)) v

  pub by_short : {e b v : ℕ} → Eight s e → e / 256 ≡ 256 → b ≡ e % 256 → Short r b v → Ran limit room (write (put (decimal_text (pos v))) ∷ []) l n l' n' → Ran limit room (events_of r zone (entry_of s)) l n l' n'
  by_short {b = b} w h q t v = ran_as (left_entry w h (ap coded_spec (sym q) ∙ coded_letter b t.entry)) (t.runs zone v)

-- after an answer that left the list alone
pub by_other : {es : List Event} {limit room : ℕ} {l₁ l l' : List ℕ} {n n' : ℕ} → l₁ ≡ l → Ran limit room es l₁ n l' n' → Ran limit room es l n l' n'
by_other {es} {limit} {room} {l' = l'} {n = n} {n' = n'} e v = subst (λ (x : List ℕ). Ran limit room es x n l' n') e v
