-- From the parts to the offset, and from its writes to the events of the directive.
use mathlib.Core.Path.{◌≡◌, refl, sym, ap, ◌∙◌, subst}
use mathlib.Core.Bool.{Bool, true, false, not}
use mathlib.Core.List.{List, ◌∷◌, map}
use Prim.Native.Nat.{ℕ}
use native.Mathlib.Omega.{arith}
use lib.IntN.{ℤ}
use Rattle.rules.specs.declared.Offset.{Offset}
use Rattle.rules.specs.declared.Padding.{Padding}
use Rattle.rules.specs.declared.Padding.TheVariants.{Left, Spaces, Zeros}
use Rattle.rules.specs.declared.Piece.{Piece}
use Rattle.rules.specs.declared.Record.{Record}
use Rattle.rules.specs.declared.Spec.TheVariants.{Offset as offset}
use Rattle.rules.specs.Record.{all_ok}
use Rattle.rules.specs.Decimal.{Fill}
use Rattle.rules.specs.Event.{Event, write, check}
use Rattle.rules.specs.Offset.{Form, hh, hhmm, hh:mm, hh:mm:ss, hours_of, minutes_of, seconds_of, minus, extra, form_of, parts_of, offset_writes}
use Rattle.rules.specs.Writing.{width_or, zeros_unless, fields_of, lead_of, body_of, verdict, verdict_of, spec_events}
use Rattle.rules.proofs.WidthLaws.{extra_small}
use Rattle.offset.specs.declared.OffsetParts.{OffsetParts}
use Rattle.offset.specs.Parts.{parts_for}
use Rattle.text.specs.Ran.{Ran}
use Rattle.text.proofs.RanLaws.{same_events, checks_hold}
use Rattle.printing.specs.FillWith.{fill_with}
use Rattle.offset_directive.specs.Parts.{parts_text, parts_writes, Small}
use Rattle.offset_directive.specs.Short.{is_spaces}

-- ## The parts of an offset

parts_text_lem : (form : Form) (z : ℤ) → parts_text form (minutes_of z) (seconds_of z) ≡ parts_of form z
unfolding parts_text parts_of
parts_text_lem hh z = refl
parts_text_lem hhmm z = refl
parts_text_lem hh:mm z = refl
parts_text_lem hh:mm:ss z = refl

module _ (z : ℤ) (utc left : Bool) {p : OffsetParts} (is : p ≡ parts_for z utc left) where
  pub small_parts : Small p
  unfolding parts_for
  small_parts =
      subst (λ (q : OffsetParts). Small q) (sym is)
      (record { place = extra_small (minus left utc z) (hours_of z); minutes = omega arith; seconds = omega arith })

  pub place_is : p.extra ≡ extra p.minus p.hours
  unfolding parts_for
  place_is = subst (λ (q : OffsetParts). q.extra ≡ extra q.minus q.hours) (sym is) refl

  pub form_is : (o : Offset) {form : Form} → ((x : ℤ) → p.minute ≡ minutes_of x → p.second ≡ seconds_of x → form ≡ form_of o x) → form ≡ form_of o z
  unfolding parts_for
  form_is o f = f z (ap (λ (q : OffsetParts). q.minute) is) (ap (λ (q : OffsetParts). q.second) is)

  writes_are : (form : Form) (fill : Fill) (width : ℕ) → parts_writes form fill width p ≡ offset_writes form fill width (minus left utc z) z
  unfolding parts_writes offset_writes parts_for
  writes_are form fill width = ap (parts_writes form fill width) is ∙ rw (parts_text_lem form z)

  pub of_offset : {limit room : ℕ} (form : Form) (fill : Fill) (width : ℕ) {l l' : List ℕ} {n n' : ℕ} → Ran limit room (map write (parts_writes form fill width p)) l n l' n' → Ran limit room (map write (offset_writes form fill width (minus left utc z) z)) l n l' n'
  of_offset form fill width w = same_events (ap (map write) (writes_are form fill width)) w

-- ## The events of the directive

fill_is : (p : Padding) → fill_with (not (is_spaces p)) ≡ zeros_unless p
fill_is Left = refl
fill_is Spaces = refl
fill_is Zeros = refl

pub not_spaces : (p : Padding) → (p ≡ Spaces → ⊥) → false ≡ is_spaces p
not_spaces Left h = refl
not_spaces Spaces h = absurd (h refl)
not_spaces Zeros h = refl

-- the writes of an offset, by what a piece and a record say of them
abbrev pub writes_by : Offset → Bool → ℕ → Bool → Bool → ℤ → List Event
writes_by o spaces width left utc z = map write (offset_writes (form_of o z) (fill_with (not spaces)) width (minus left utc z) z)

-- no field is checked
pub offset_events : (o : Offset) (p : Piece) (r : Record) (zone : List ℕ)
    → check true 0 ∷ writes_by o (is_spaces p.padding) (width_or p.width 0) p.flags.left r.is_utc r.utc_offset ≡ spec_events (offset o) p r zone
unfolding spec_events verdict_of verdict lead_of fields_of body_of all_ok
offset_events o p r zone =
    let z = r.utc_offset in
    ap (λ (f : Fill). check true 0 ∷ map write (offset_writes (form_of o z) f (width_or p.width 0) (minus p.flags.left r.is_utc z) z)) (fill_is p.padding)

pub offset_run : {limit room : ℕ} (o : Offset) (p : Piece) (r : Record) (zone : List ℕ) {spaces left : Bool} {width : ℕ} {z : ℤ} → spaces ≡ is_spaces p.padding → left ≡ p.flags.left → width ≡ width_or p.width 0 → z ≡ r.utc_offset →
    {l l' : List ℕ} {n n' : ℕ} → Ran limit room (writes_by o spaces width left r.is_utc z) l n l' n' → Ran limit room (spec_events (offset o) p r zone) l n l' n'
offset_run o p r zone s f b e w = same_events (offset_events o p r zone) (checks_hold (same_events (rw (s, f, b, e)) w))
