-- The length of a text as a formula of a few measures of the record, by kind of directive.
use mathlib.Core.Bool.{Bool, cond}
use mathlib.Core.List.{List, [], ◌∷◌}
use Prim.Native.Nat.{ℕ, zero, suc, ◌+◌, ◌-◌, min, max}
use lib.ListN.{length}
use Rattle.rules.specs.declared.Record.{Record}
use Rattle.rules.specs.declared.Number.{Number}
use Rattle.rules.specs.declared.Number.TheVariants.{Year4Digits}
use Rattle.rules.specs.declared.Name.{Name}
use Rattle.rules.specs.declared.Offset.{Offset}
use Rattle.rules.specs.declared.Combination.{Combination}
use Rattle.rules.specs.declared.Combination.TheVariants.{CombinationDateTime, CombinationDate, CombinationIso8601, CombinationVmsDate, CombinationTime12h, CombinationHourMinute24h, CombinationTime24h}
use Rattle.rules.specs.declared.Spec.{Spec}
use Rattle.rules.specs.declared.Spec.TheVariants.{Number as number, Name as name, Fraction as fraction, Offset as offset, TimeZoneName, Fixed as fixed, Combination as combination}
use Rattle.rules.specs.declared.Piece.{Piece}
use Rattle.rules.specs.Decimal.{digit_count, decimal_text}
use Rattle.rules.specs.Name.{name_of}
use Rattle.rules.specs.Offset.{hours_of, minus, extra, form_of, length_of_form}
use Rattle.rules.specs.Writing.{width_or, value_of, default_width, fraction_digits}
use Rattle.rules.specs.Format.{Item, literal, echo, directive, cut}

-- the plain text of each number, its default width, the names, the hours with the extra place by the left flag, the offset's forms, the zone name
pub record Extent : Type 0 where
  pub plain : Number → ℕ
  pub width : Number → ℕ
  pub names : Name → ℕ
  pub hours : Bool → ℕ
  pub form : Offset → ℕ
  pub zone : ℕ

abbrev pub text_length : Number → Record → ℕ
text_length n r = length (decimal_text (value_of n r))

abbrev pub width_in : Number → Record → ℕ
width_in n r = default_width n (value_of n r)

abbrev pub hours_length : Bool → Record → ℕ
hours_length left r = extra (minus left r.is_utc r.utc_offset) (hours_of r.utc_offset) + digit_count (hours_of r.utc_offset)

abbrev pub form_length : Offset → Record → ℕ
form_length o r = length_of_form (form_of o r.utc_offset)

abbrev pub extent_of : Record → List ℕ → Extent
extent_of r zone =
    record {
      plain = λ n. text_length n r;
      width = λ n. width_in n r;
      names = λ n. length (name_of n r);
      hours = λ left. hours_length left r;
      form = λ o. form_length o r;
      zone = length zone;
    }

-- of a text of n bytes
unfoldable pub number_length : Bool → ℕ → ℕ → ℕ
number_length left width n = cond left n (width - 65535 + max (min width 65535) n)

unfoldable pub name_length : Bool → ℕ → ℕ → ℕ
name_length left width n = cond left n (max width n)

unfoldable pub zone_length : Bool → ℕ → ℕ → ℕ
zone_length left width zero = 0
zone_length left width (suc n) = name_length left width (suc n)

unfoldable pub combination_size : Combination → Extent → ℕ
combination_size CombinationDateTime e = 20 + max (e.width Year4Digits) (e.plain Year4Digits)
combination_size CombinationDate e = 8
combination_size CombinationIso8601 e = 6 + max (e.width Year4Digits) (e.plain Year4Digits)
combination_size CombinationVmsDate e = 7 + max 4 (e.plain Year4Digits)
combination_size CombinationTime12h e = 11
combination_size CombinationHourMinute24h e = 5
combination_size CombinationTime24h e = 8

unfoldable pub spec_length : Spec → Piece → Extent → ℕ
spec_length (number n) p e = number_length p.flags.left (width_or p.width (e.width n)) (e.plain n)
spec_length (name n) p e = name_length p.flags.left (width_or p.width 0) (e.names n)
spec_length (fraction f) p e = width_or p.width (fraction_digits f)
spec_length (offset o) p e = max (width_or p.width 0) (e.form o) + e.hours p.flags.left - 2
spec_length TimeZoneName p e = zone_length p.flags.left (width_or p.width 0) e.zone
spec_length (fixed f) p e = name_length p.flags.left (width_or p.width 0) 1
spec_length (combination c) p e = max (width_or p.width 0) (combination_size c e)

unfoldable pub item_length : Item → Extent → ℕ
item_length (literal b) e = 1
item_length (echo text) e = length text
item_length (directive p) e = spec_length p.spec p e
item_length cut e = 0

unfoldable pub total_length : List Item → Extent → ℕ
total_length [] e = 0
total_length (i ∷ is) e = item_length i e + total_length is e
