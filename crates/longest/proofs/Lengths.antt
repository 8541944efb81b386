-- The text of a format is as long as the formula says, for a record in range.
use mathlib.Core.Path.{◌≡◌, refl, ap₂, ◌∙◌}
use mathlib.Core.Bool.{Bool, true, false, cond}
use mathlib.Core.List.{List, [], ◌∷◌, ◌++◌, map}
use Prim.Native.Nat.{ℕ, ◌+◌, ◌-◌, ◌/◌, ◌^◌, min, max}
use native.Mathlib.Omega.{arith}
use lib.ListN.{length, length-append}
use lib.IntN.{ℤ}
use Rattle.rules.specs.declared.Record.{Record}
use Rattle.rules.specs.declared.Combination.{Combination}
use Rattle.rules.specs.declared.Combination.TheVariants.{CombinationDateTime, CombinationDate, CombinationIso8601, CombinationVmsDate, CombinationTime12h, CombinationHourMinute24h, CombinationTime24h}
use Rattle.rules.specs.declared.Spec.{Spec}
use Rattle.rules.specs.declared.Spec.TheVariants.{Number as number, Name as name, Fraction as fraction, Offset as offset, TimeZoneName, Fixed as fixed, Combination as combination}
use Rattle.rules.specs.declared.Piece.{Piece}
use Rattle.rules.specs.Record.{InRange}
use Rattle.rules.specs.Event.{Write, put, write, judged, write_length, length_of}
use Rattle.rules.specs.Decimal.{digits, decimal_text, Fill, zeros, spaces}
use Rattle.rules.specs.Name.{in_case, case_of, zone_case, name_of}
use Rattle.rules.specs.Offset.{Form, hh, hhmm, hh:mm, hh:mm:ss, hours_of, minutes_of, extra, length_of_form, parts_of, sign_and_pad, offset_writes}
use Rattle.rules.specs.Writing.{width_or, value_of, default_width, number_writes, pad_to, name_writes, fixed_byte, zone_writes, fraction_writes, fraction_digits, combination_length, combination_fields, lead_of, body_of, verdict_of, spec_events, events_of}
use Rattle.rules.specs.Format.{Item, literal, echo, directive, cut, item_events, events}
use Rattle.rules.proofs.EventLaws.{length_join}
use Rattle.rules.proofs.DecimalLaws.{length_places, length_filled}
use Rattle.rules.proofs.RecordLaws.{all_ok_lem}
use Rattle.rules.proofs.WidthLaws.{length_cased}
use Rattle.longest.proofs.Combinations.{combination_length_lem}
use Rattle.longest.proofs.Measure.{extent_of, number_length, name_length, zone_length, combination_size, spec_length, item_length, total_length}

abbrev writes_length : List Write → ℕ
writes_length ws = length_of (map write ws)

writes_join : (xs ys : List Write) → writes_length (xs ++ ys) ≡ writes_length xs + writes_length ys
unfolding length_of
writes_join [] ys = omega arith
writes_join (w ∷ xs) ys = omega (arith, writes_join xs ys)

length_number : (left : Bool) (fill : Fill) (width : ℕ) (value : ℤ) → writes_length (number_writes left fill width value) ≡ number_length left width (length (decimal_text value))
unfolding number_writes number_length length_of write_length
length_number true fill width value = omega arith
length_number false fill width value = omega (arith, length_filled fill (min width 65535) value)

length_name : (p : Piece) (text : List ℕ) → writes_length (name_writes p text) ≡ name_length p.flags.left (width_or p.width 0) (length text)
unfolding name_writes name_length length_of write_length
length_name p text = go p.flags.left
  where
    go : (left : Bool) → writes_length (cond left [] (pad_to p (length text) ∷ []) ++ (put text ∷ [])) ≡ name_length left (width_or p.width 0) (length text)
    go true = omega arith
    go false = omega arith

length_fraction : (width nanos : ℕ) → writes_length (fraction_writes width nanos) ≡ width
unfolding fraction_writes length_of write_length
length_fraction width nanos = omega (arith, length_places (min width 9) (nanos / 10 ^ (9 - width)))

length_zone : (p : Piece) (zone : List ℕ) → writes_length (zone_writes p zone) ≡ zone_length p.flags.left (width_or p.width 0) (length zone)
unfolding zone_writes zone_length
length_zone p [] = unfold length_of in refl
length_zone p (b ∷ zone) = length_name p (in_case (zone_case p.flags) (b ∷ zone)) ∙ rw (length_cased (zone_case p.flags) (b ∷ zone))

length_parts : (form : Form) (z : ℤ) → length (parts_of form z) + 3 ≡ length_of_form form
unfolding parts_of length_of_form
length_parts hh z = refl
length_parts hhmm z = omega (arith, length_places 2 (minutes_of z))
length_parts hh:mm z = omega (arith, length_places 2 (minutes_of z))
length_parts hh:mm:ss z = simp (length-append, length_places)

length_sign : (fill : Fill) (negative : Bool) (count : ℕ) → writes_length (sign_and_pad fill negative count) ≡ count + 1
unfolding sign_and_pad length_of write_length
length_sign zeros true count = omega arith
length_sign zeros false count = omega arith
length_sign spaces true count = omega arith
length_sign spaces false count = omega arith

length_offset : (form : Form) (fill : Fill) (width : ℕ) (negative : Bool) (z : ℤ) →
    writes_length (offset_writes form fill width negative z) ≡ max width (length_of_form form) + (extra negative (hours_of z) + length (digits (hours_of z))) - 2
unfolding offset_writes
length_offset form fill width negative z =
    writes_join (sign_and_pad fill negative (width - length_of_form form + extra negative (hours_of z))) (put (digits (hours_of z) ++ parts_of form z) ∷ [])
    ∙ unfold length_of write_length in
    omega
    (arith, length_sign fill negative (width - length_of_form form + extra negative (hours_of z)), length-append (digits (hours_of z)) (parts_of form z), length_parts form z)

length_combination : (c : Combination) (r : Record) (zone : List ℕ) → combination_length c r.year ≡ combination_size c (extent_of r zone)
unfolding combination_length combination_size value_of default_width
length_combination CombinationDateTime r zone = simp length_filled
length_combination CombinationDate r zone = refl
length_combination CombinationIso8601 r zone = simp length_filled (omega arith)
length_combination CombinationVmsDate r zone = simp length_filled
length_combination CombinationTime12h r zone = refl
length_combination CombinationHourMinute24h r zone = refl
length_combination CombinationTime24h r zone = refl

module _ (r : Record) (zone : List ℕ) (h : InRange r zone) where
  none_first : {m n : ℕ} → m ≡ n → 0 + m ≡ n
  none_first e = omega arith

  length_spec : (s : Spec) (p : Piece) → writes_length (lead_of s p r.year) + writes_length (body_of s p r zone) ≡ spec_length s p (extent_of r zone)
  unfolding lead_of body_of spec_length length_of
  length_spec (number n) p = none_first (length_number p.flags.left _ _ (value_of n r))
  length_spec (name n) p = none_first (length_name p (in_case (case_of n p.flags) (name_of n r)) ∙ rw (length_cased (case_of n p.flags) (name_of n r)))
  length_spec (fraction f) p = none_first (length_fraction (width_or p.width (fraction_digits f)) r.nanoseconds)
  length_spec (offset o) p = none_first (length_offset _ _ _ _ r.utc_offset)
  length_spec TimeZoneName p = none_first (length_zone p zone)
  length_spec (fixed f) p = none_first (length_name p (fixed_byte f ∷ []))
  length_spec (combination c) p =
      unfold write_length in omega (arith, combination_length_lem r zone c p.flags (all_ok_lem r zone h (combination_fields c)), length_combination c r zone)

  length_piece : (p : Piece) → length_of (events_of r zone p) ≡ spec_length p.spec p (extent_of r zone)
  unfolding events_of spec_events
  length_piece p =
      length_join (map write (lead_of p.spec p r.year)) (judged (verdict_of p.spec r zone) ∷ map write (body_of p.spec p r zone))
      ∙ unfold length_of in length_spec p.spec p

  length_item : (i : Item) → length_of (item_events (events_of r zone) i) ≡ item_length i (extent_of r zone)
  unfolding item_events item_length
  length_item (literal b) = unfold length_of write_length in refl
  length_item (echo text) = unfold length_of write_length in omega arith
  length_item (directive p) = length_piece p
  length_item cut = unfold length_of in refl

  pub length_format : (is : List Item) → length_of (events (events_of r zone) is) ≡ total_length is (extent_of r zone)
  unfolding events total_length
  length_format [] = unfold length_of in refl
  length_format (i ∷ is) = length_join (item_events (events_of r zone) i) (events (events_of r zone) is) ∙ ap₂ ◌+◌ (length_item i) (length_format is)
