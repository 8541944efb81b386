-- No directive but `Z` looks at the zone name.
use mathlib.Core.Path.{◌≡◌, refl}
use mathlib.Core.Bool.{Bool, true, false}
use mathlib.Core.List.{List, [], ◌∷◌, Memᴰ}
use Prim.Native.Nat.{ℕ}
use lib.Dec.{T, leb}
use lib.ListN.{length}
use Rattle.rules.specs.declared.Record.{Record}
use Rattle.rules.specs.declared.Number.{Number}
use Rattle.rules.specs.declared.Number.TheVariants.{Year4Digits, YearDiv100, YearRem100, Month, MonthDayZero, MonthDaySpace, YearDay, Hour24hZero, Hour24hSpace, Hour12hZero, Hour12hSpace, Minute, Second, WeekDayFrom1, WeekDayFrom0, YearIso8601, YearIso8601Rem100, WeekNumberIso8601, WeekNumberFromSunday, WeekNumberFromMonday, SecondsSinceEpoch}
use Rattle.rules.specs.declared.Name.{Name}
use Rattle.rules.specs.declared.Name.TheVariants.{MonthName, MonthNameAbbr, MeridianLower, MeridianUpper, WeekDayName, WeekDayNameAbbr}
use Rattle.rules.specs.declared.Combination.{Combination}
use Rattle.rules.specs.declared.Combination.TheVariants.{CombinationDateTime, CombinationDate, CombinationIso8601, CombinationVmsDate, CombinationTime12h, CombinationHourMinute24h, CombinationTime24h}
use Rattle.rules.specs.declared.Spec.{Spec}
use Rattle.rules.specs.declared.Spec.TheVariants.{Number as number, Name as name, Fraction as fraction, Offset as offset, TimeZoneName, Fixed as fixed, Combination as combination}
use Rattle.rules.specs.declared.Piece.{Piece}
use Rattle.rules.specs.Record.{Field, month, day, hour, minute, second, nanoseconds, weekday, day_of_year, zone_name, longest_zone}
use Rattle.rules.specs.Writing.{number_fields, name_fields, combination_fields, fields_of}
use Rattle.rules.specs.Format.{directive, items, formatted}
use Rattle.rules.proofs.UnreadFields.{Free, year, to_int, utc_offset, is_utc, free_of, EachFree, EachField, Agree, unread_fields}

abbrev nameless : List Field → Bool
nameless [] = true
nameless (month ∷ fs) = nameless fs
nameless (day ∷ fs) = nameless fs
nameless (hour ∷ fs) = nameless fs
nameless (minute ∷ fs) = nameless fs
nameless (second ∷ fs) = nameless fs
nameless (nanoseconds ∷ fs) = nameless fs
nameless (weekday ∷ fs) = nameless fs
nameless (day_of_year ∷ fs) = nameless fs
nameless (zone_name ∷ fs) = false

number_nameless : (n : Number) → T (nameless (number_fields n))
unfolding number_fields
number_nameless Year4Digits = tt
number_nameless YearDiv100 = tt
number_nameless YearRem100 = tt
number_nameless Month = tt
number_nameless MonthDayZero = tt
number_nameless MonthDaySpace = tt
number_nameless YearDay = tt
number_nameless Hour24hZero = tt
number_nameless Hour24hSpace = tt
number_nameless Hour12hZero = tt
number_nameless Hour12hSpace = tt
number_nameless Minute = tt
number_nameless Second = tt
number_nameless WeekDayFrom1 = tt
number_nameless WeekDayFrom0 = tt
number_nameless YearIso8601 = tt
number_nameless YearIso8601Rem100 = tt
number_nameless WeekNumberIso8601 = tt
number_nameless WeekNumberFromSunday = tt
number_nameless WeekNumberFromMonday = tt
number_nameless SecondsSinceEpoch = tt

name_nameless : (n : Name) → T (nameless (name_fields n))
unfolding name_fields
name_nameless MonthName = tt
name_nameless MonthNameAbbr = tt
name_nameless MeridianLower = tt
name_nameless MeridianUpper = tt
name_nameless WeekDayName = tt
name_nameless WeekDayNameAbbr = tt

combination_nameless : (c : Combination) → T (nameless (combination_fields c))
unfolding combination_fields
combination_nameless CombinationDateTime = tt
combination_nameless CombinationDate = tt
combination_nameless CombinationIso8601 = tt
combination_nameless CombinationVmsDate = tt
combination_nameless CombinationTime12h = tt
combination_nameless CombinationHourMinute24h = tt
combination_nameless CombinationTime24h = tt

others_nameless : (s : Spec) → (s ≡ TimeZoneName → ⊥) → T (nameless (fields_of s))
unfolding fields_of
others_nameless (number n) other = number_nameless n
others_nameless (name n) other = name_nameless n
others_nameless (fraction f) other = tt
others_nameless (offset o) other = tt
others_nameless TimeZoneName other = absurd (other refl)
others_nameless (fixed f) other = tt
others_nameless (combination c) other = combination_nameless c

module _ (r : Record) (zone zone' : List ℕ) where
  same_free : (fs : List Free) → EachFree r r zone zone' fs
  same_free [] = tt
  same_free (year ∷ fs) = (refl, same_free fs)
  same_free (to_int ∷ fs) = (refl, same_free fs)
  same_free (utc_offset ∷ fs) = (refl, same_free fs)
  same_free (is_utc ∷ fs) = (refl, same_free fs)

  same_fields : (fs : List Field) → T (nameless fs) → EachField r r zone zone' fs
  same_fields [] h = tt
  same_fields (month ∷ fs) h = (refl, same_fields fs h)
  same_fields (day ∷ fs) h = (refl, same_fields fs h)
  same_fields (hour ∷ fs) h = (refl, same_fields fs h)
  same_fields (minute ∷ fs) h = (refl, same_fields fs h)
  same_fields (second ∷ fs) h = (refl, same_fields fs h)
  same_fields (nanoseconds ∷ fs) h = (refl, same_fields fs h)
  same_fields (weekday ∷ fs) h = (refl, same_fields fs h)
  same_fields (day_of_year ∷ fs) h = ((refl, refl), same_fields fs h)
  same_fields (zone_name ∷ fs) h = absurd h

  pub others_agree : (s : Spec) → (s ≡ TimeZoneName → ⊥) → Agree r r zone zone' s
  others_agree s other = record { free = same_free (free_of s); fields = same_fields (fields_of s) (others_nameless s other) }

  -- so the name has no say in a format without `Z`, but for its length: that may be 5
  pub never_looks : (format : List ℕ) (room : ℕ) → leb (length zone) longest_zone ≡ leb (length zone') longest_zone →
      ((p : Piece) → Memᴰ (directive p) (items format) → p.spec ≡ TimeZoneName → ⊥) → formatted format zone r room ≡ formatted format zone' r room
  never_looks format room same none = unread_fields r r zone zone' format room same (λ p m. others_agree p.spec (none p m))
