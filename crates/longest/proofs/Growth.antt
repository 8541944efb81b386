-- The formula of the length grows with every measure.
use Rattle.std.specs.Prelude.{Option, Some, None}
use mathlib.Core.Bool.{Bool, true, false}
use mathlib.Core.List.{List, [], ◌∷◌}
use Prim.Native.Nat.{ℕ, zero, suc, ◌≤◌}
use native.Mathlib.Nat.{le_refl}
use native.Mathlib.Omega.{arith}
use Rattle.rules.specs.declared.Record.{Record}
use Rattle.rules.specs.declared.Number.{Number}
use Rattle.rules.specs.declared.Name.{Name}
use Rattle.rules.specs.declared.Offset.{Offset}
use Rattle.rules.specs.declared.Combination.{Combination}
use Rattle.rules.specs.declared.Combination.TheVariants.{CombinationDateTime, CombinationDate, CombinationIso8601, CombinationVmsDate, CombinationTime12h, CombinationHourMinute24h, CombinationTime24h}
use Rattle.rules.specs.declared.Number.TheVariants.{Year4Digits}
use Rattle.rules.specs.declared.Spec.{Spec}
use Rattle.rules.specs.declared.Spec.TheVariants.{Number as number, Name as name, Fraction as fraction, Offset as offset, TimeZoneName, Fixed as fixed, Combination as combination}
use Rattle.rules.specs.declared.Piece.{Piece}
use Rattle.rules.specs.Record.{InRange}
use Rattle.rules.specs.Event.{length_of}
use Rattle.rules.specs.Writing.{width_or, events_of}
use Rattle.rules.specs.Format.{Item, literal, echo, directive, cut, events}
use Rattle.longest.proofs.Measure.{Extent, extent_of, number_length, name_length, zone_length, combination_size, spec_length, item_length, total_length}
use Rattle.longest.proofs.Lengths.{length_format}

-- no measure of d is above e's
pub record Below (d e : Extent) : Type 0 where
  pub plain : (n : Number) → d.plain n ≤ e.plain n
  pub width : (n : Number) → d.width n ≤ e.width n
  pub names : (n : Name) → d.names n ≤ e.names n
  pub hours : (left : Bool) → d.hours left ≤ e.hours left
  pub form : (o : Offset) → d.form o ≤ e.form o
  pub zone : d.zone ≤ e.zone

width_grows : (w : Option ℕ) {m n : ℕ} → m ≤ n → width_or w m ≤ width_or w n
width_grows None h = h
width_grows (Some w) h = le_refl w

number_grows : (left : Bool) {v w m n : ℕ} → v ≤ w → m ≤ n → number_length left v m ≤ number_length left w n
unfolding number_length
number_grows true k h = h
number_grows false k h = omega arith

name_grows : (left : Bool) (w : ℕ) {m n : ℕ} → m ≤ n → name_length left w m ≤ name_length left w n
unfolding name_length
name_grows true w h = h
name_grows false w h = omega arith

zone_grows : (left : Bool) (w m n : ℕ) → m ≤ n → zone_length left w m ≤ zone_length left w n
unfolding zone_length
zone_grows left w zero n h = omega arith
zone_grows left w (suc m) zero h = absurd (omega arith)
zone_grows left w (suc m) (suc n) h = name_grows left w h

module _ {d e : Extent} (b : Below d e) where
  combination_grows : (c : Combination) → combination_size c d ≤ combination_size c e
  unfolding combination_size
  combination_grows CombinationDateTime = omega (arith, b.width Year4Digits, b.plain Year4Digits)
  combination_grows CombinationDate = le_refl 8
  combination_grows CombinationIso8601 = omega (arith, b.width Year4Digits, b.plain Year4Digits)
  combination_grows CombinationVmsDate = omega (arith, b.plain Year4Digits)
  combination_grows CombinationTime12h = le_refl 11
  combination_grows CombinationHourMinute24h = le_refl 5
  combination_grows CombinationTime24h = le_refl 8

  spec_grows : (s : Spec) (p : Piece) → spec_length s p d ≤ spec_length s p e
  unfolding spec_length
  spec_grows (number n) p = number_grows p.flags.left (width_grows p.width (b.width n)) (b.plain n)
  spec_grows (name n) p = name_grows p.flags.left (width_or p.width 0) (b.names n)
  spec_grows (fraction f) p = le_refl _
  spec_grows (offset o) p = omega (arith, b.form o, b.hours p.flags.left)
  spec_grows TimeZoneName p = zone_grows p.flags.left (width_or p.width 0) d.zone e.zone b.zone
  spec_grows (fixed f) p = le_refl _
  spec_grows (combination c) p = omega (arith, combination_grows c)

  total_grows : (is : List Item) → total_length is d ≤ total_length is e
  unfolding total_length item_length
  total_grows [] = le_refl _
  total_grows (literal x ∷ is) = omega (arith, total_grows is)
  total_grows (echo text ∷ is) = omega (arith, total_grows is)
  total_grows (directive p ∷ is) = omega (arith, spec_grows p.spec p, total_grows is)
  total_grows (cut ∷ is) = omega (arith, total_grows is)

-- so the text of a record that is below another in every measure is no longer
pub text_grows : (r s : Record) (zone zone' : List ℕ) → InRange r zone → InRange s zone' → Below (extent_of r zone) (extent_of s zone') → (is : List Item) →
    length_of (events (events_of r zone) is) ≤ length_of (events (events_of s zone') is)
text_grows r s zone zone' h k b is = rw (length_format r zone h is, length_format s zone' k is) (total_grows b is)
