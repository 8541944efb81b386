-- The rules with another test of a zone byte: with the test of the rules they are the rules; a test has no say in the text.
use mathlib.Core.Path.{◌≡◌, refl, sym, ap, ap₂, fun_ext, ◌∙◌}
use mathlib.Core.Bool.{Bool, true, and-true}
use mathlib.Core.List.{List, [], ◌∷◌, ◌++◌}
use Prim.Native.Nat.{ℕ}
use lib.ListN.{length}
use Rattle.rules.specs.declared.Record.{Record}
use Rattle.rules.specs.declared.Spec.{Spec}
use Rattle.rules.specs.declared.Spec.TheVariants.{Number as number, Name as name, Fraction as fraction, Offset as offset, TimeZoneName, Fixed as fixed, Combination as combination}
use Rattle.rules.specs.declared.Piece.{Piece}
use Rattle.rules.specs.Record.{zone_byte_ok, zone_ok, ok_field, all_ok}
use Rattle.rules.specs.Event.{Event, text_of, run}
use Rattle.rules.specs.Writing.{fields_of, lead_of, body_of, verdict_of, spec_events, events_of}
use Rattle.rules.specs.Format.{Item, literal, echo, directive, cut, items, item_events, events, limit_of, lengths_first, format_events, formatted}
use Rattle.rules.specs.ZoneNames.{is_zone, events_by, formatted_by}
use Rattle.rules.proofs.EventLaws.{text_join}
use Rattle.rules.proofs.FormatLaws.{never}
use Rattle.rules.proofs.RecordLaws.{by_test}

zone_spec : (s : Spec) → is_zone s ≡ true → s ≡ TimeZoneName
zone_spec (number n) e = never (sym e)
zone_spec (name n) e = never (sym e)
zone_spec (fraction f) e = never (sym e)
zone_spec (offset o) e = never (sym e)
zone_spec TimeZoneName e = refl
zone_spec (fixed f) e = never (sym e)
zone_spec (combination c) e = never (sym e)

module _ (r : Record) (zone : List ℕ) where
  -- by the test that the rules have, they are the rules
  same_events : (p : Piece) → events_by zone_byte_ok r zone p ≡ events_of r zone p
  unfolding events_by events_of
  same_events p =
      by_test (λ (es : List Event). es ≡ spec_events p.spec p r zone) (is_zone p.spec)
      (λ e. rw (zone_spec p.spec e) (unfold spec_events lead_of body_of verdict_of fields_of all_ok ok_field zone_ok in rw and-true)) (λ e. refl)

  -- a test has no say in the text
  text_by : (byte_ok : ℕ → Bool) (p : Piece) → text_of (events_by byte_ok r zone p) ≡ text_of (events_of r zone p)
  unfolding events_by events_of
  text_by byte_ok p =
      by_test (λ (es : List Event). text_of es ≡ text_of (spec_events p.spec p r zone)) (is_zone p.spec)
      (λ e. rw (zone_spec p.spec e) (unfold spec_events lead_of body_of text_of in refl)) (λ e. refl)

  item_text : (byte_ok : ℕ → Bool) (i : Item) → text_of (item_events (events_by byte_ok r zone) i) ≡ text_of (item_events (events_of r zone) i)
  unfolding item_events
  item_text byte_ok (literal b) = refl
  item_text byte_ok (echo text) = refl
  item_text byte_ok (directive p) = text_by byte_ok p
  item_text byte_ok cut = refl

  pub items_text : (byte_ok : ℕ → Bool) (is : List Item) → text_of (events (events_by byte_ok r zone) is) ≡ text_of (events (events_of r zone) is)
  unfolding events
  items_text byte_ok [] = refl
  items_text byte_ok (i ∷ is) =
      text_join (item_events (events_by byte_ok r zone) i) (events (events_by byte_ok r zone) is)
      ∙ ap₂ ◌++◌ (item_text byte_ok i) (items_text byte_ok is)
      ∙ sym (text_join (item_events (events_of r zone) i) (events (events_of r zone) is))

pub by_the_rules : formatted_by zone_byte_ok ≡ formatted
unfolding formatted_by formatted format_events
by_the_rules =
    fun_ext (λ format. fun_ext (λ zone. fun_ext (λ r. fun_ext (λ room.
    ap (λ (es : Piece → List Event). run (limit_of (length format)) room (lengths_first format zone room (events es (items format)))) (fun_ext (same_events r zone))))))
