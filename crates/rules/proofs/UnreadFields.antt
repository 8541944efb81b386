-- What a directive reads of a record and a zone name; the rest of them has no say in the outcome.
use mathlib.Core.Path.{◌≡◌, refl, ap, ap₂}
use mathlib.Core.Bool.{◌&&◌}
use mathlib.Core.List.{List, [], ◌∷◌, ◌++◌, Memᴰ}
use Prim.Native.Nat.{ℕ}
use lib.Dec.{leb}
use lib.ListN.{length}
use Rattle.rules.specs.declared.Record.{Record}
use Rattle.rules.specs.declared.Flags.{Flags}
use Rattle.rules.specs.declared.Number.{Number}
use Rattle.rules.specs.declared.Number.TheVariants.{Year4Digits, YearDiv100, YearRem100, Month, MonthDayZero, MonthDaySpace, YearDay, Hour24hZero, Hour24hSpace, Hour12hZero, Hour12hSpace, Minute, Second, WeekDayFrom1, WeekDayFrom0, YearIso8601, YearIso8601Rem100, WeekNumberIso8601, WeekNumberFromSunday, WeekNumberFromMonday, SecondsSinceEpoch}
use Rattle.rules.specs.declared.Name.{Name}
use Rattle.rules.specs.declared.Name.TheVariants.{MonthName, MonthNameAbbr, MeridianLower, MeridianUpper, WeekDayName, WeekDayNameAbbr}
use Rattle.rules.specs.declared.Combination.{Combination}
use Rattle.rules.specs.declared.Combination.TheVariants.{CombinationDateTime, CombinationDate, CombinationIso8601, CombinationVmsDate, CombinationTime12h, CombinationHourMinute24h, CombinationTime24h}
use Rattle.rules.specs.declared.Spec.{Spec}
use Rattle.rules.specs.declared.Spec.TheVariants.{Number as number, Name as name, Fraction as fraction, Offset as offset, TimeZoneName, Fixed as fixed, Combination as combination}
use Rattle.rules.specs.declared.Piece.{Piece}
use Rattle.rules.specs.Record.{Field, month, day, hour, minute, second, nanoseconds, weekday, day_of_year, zone_name, longest_zone, zone_ok, last_day_of, within, ok_field, all_ok}
use Rattle.rules.specs.Name.{name_of}
use Rattle.rules.specs.Writing.{value_of, combination_length, combination_text, number_fields, name_fields, combination_fields, fields_of, lead_of, body_of, verdict_of, spec_events, events_of}
use Rattle.rules.specs.Format.{Item, literal, echo, directive, cut, items, item_events, events, format_events, formatted}

-- ## What a directive reads

-- the fields that have no range: "Year, to_int, offset: any." Nor has is_utc
pub data Free : Type 0 where
  year to_int utc_offset is_utc : Free

unfoldable pub number_free : Number → List Free
number_free Year4Digits = year ∷ []
number_free YearDiv100 = year ∷ []
number_free YearRem100 = year ∷ []
number_free Month = []
number_free MonthDayZero = []
number_free MonthDaySpace = []
number_free YearDay = []
number_free Hour24hZero = []
number_free Hour24hSpace = []
number_free Hour12hZero = []
number_free Hour12hSpace = []
number_free Minute = []
number_free Second = []
number_free WeekDayFrom1 = []
number_free WeekDayFrom0 = []
number_free YearIso8601 = year ∷ []
number_free YearIso8601Rem100 = year ∷ []
number_free WeekNumberIso8601 = year ∷ []
number_free WeekNumberFromSunday = []
number_free WeekNumberFromMonday = []
number_free SecondsSinceEpoch = to_int ∷ []

unfoldable pub combination_free : Combination → List Free
combination_free CombinationDateTime = year ∷ []
combination_free CombinationDate = year ∷ []
combination_free CombinationIso8601 = year ∷ []
combination_free CombinationVmsDate = year ∷ []
combination_free CombinationTime12h = []
combination_free CombinationHourMinute24h = []
combination_free CombinationTime24h = []

-- of these, the ones that a directive reads. Of the fields that have a range it reads those that it checks, `fields_of`
unfoldable pub free_of : Spec → List Free
free_of (number n) = number_free n
free_of (name n) = []
free_of (fraction f) = []
free_of (offset o) = utc_offset ∷ is_utc ∷ []
free_of TimeZoneName = []
free_of (fixed f) = []
free_of (combination c) = combination_free c

module _ (r r' : Record) (zone zone' : List ℕ) where
  -- ## Two stamps that agree

  abbrev pub SameFree : Free → Type 0
  SameFree year = r.year ≡ r'.year
  SameFree to_int = r.to_int ≡ r'.to_int
  SameFree utc_offset = r.utc_offset ≡ r'.utc_offset
  SameFree is_utc = r.is_utc ≡ r'.is_utc

  -- the same value. A day of the year is checked against `last_day_of` its year, so that is the same too
  abbrev pub SameField : Field → Type 0
  SameField month = r.month ≡ r'.month
  SameField day = r.day ≡ r'.day
  SameField hour = r.hour ≡ r'.hour
  SameField minute = r.minute ≡ r'.minute
  SameField second = r.second ≡ r'.second
  SameField nanoseconds = r.nanoseconds ≡ r'.nanoseconds
  SameField weekday = r.day_of_week ≡ r'.day_of_week
  SameField day_of_year = (r.day_of_year ≡ r'.day_of_year) × (last_day_of r.year ≡ last_day_of r'.year)
  SameField zone_name = zone ≡ zone'

  abbrev pub EachFree : List Free → Type 0
  EachFree [] = Unit {0}
  EachFree (f ∷ fs) = SameFree f × EachFree fs

  abbrev pub EachField : List Field → Type 0
  EachField [] = Unit {0}
  EachField (f ∷ fs) = SameField f × EachField fs

  -- two records with their zone names agree in all that a directive reads
  pub record Agree (s : Spec) : Type 0 where
    pub free : EachFree (free_of s)
    pub fields : EachField (fields_of s)

  -- ## The checks

  same_ok : (f : Field) → SameField f → ok_field f r zone ≡ ok_field f r' zone'
  unfolding ok_field
  same_ok month h = ap (within 1 12) h
  same_ok day h = ap (within 1 31) h
  same_ok hour h = ap (λ n. leb n 23) h
  same_ok minute h = ap (λ n. leb n 59) h
  same_ok second h = ap (λ n. leb n 60) h
  same_ok nanoseconds h = ap (λ n. leb n 999999999) h
  same_ok weekday h = ap (λ n. leb n 6) h
  same_ok day_of_year h = ap₂ (within 1) h.1 h.0
  same_ok zone_name h = ap zone_ok h

  same_checks : (fs : List Field) → EachField fs → all_ok fs r zone ≡ all_ok fs r' zone'
  unfolding all_ok
  same_checks [] h = refl
  same_checks (f ∷ fs) h = ap₂ ◌&&◌ (same_ok f h.0) (same_checks fs h.1)

  -- ## The writes

  same_value : (n : Number) → EachFree (number_free n) → EachField (number_fields n) → value_of n r ≡ value_of n r'
  unfolding value_of number_free number_fields
  same_value Year4Digits g h = cc
  same_value YearDiv100 g h = cc
  same_value YearRem100 g h = cc
  same_value Month g h = cc
  same_value MonthDayZero g h = cc
  same_value MonthDaySpace g h = cc
  same_value YearDay g h = cc
  same_value Hour24hZero g h = cc
  same_value Hour24hSpace g h = cc
  same_value Hour12hZero g h = cc
  same_value Hour12hSpace g h = cc
  same_value Minute g h = cc
  same_value Second g h = cc
  same_value WeekDayFrom1 g h = cc
  same_value WeekDayFrom0 g h = cc
  same_value YearIso8601 g h = cc
  same_value YearIso8601Rem100 g h = cc
  same_value WeekNumberIso8601 g h = cc
  same_value WeekNumberFromSunday g h = cc
  same_value WeekNumberFromMonday g h = cc
  same_value SecondsSinceEpoch g h = cc

  same_name : (n : Name) → EachField (name_fields n) → name_of n r ≡ name_of n r'
  unfolding name_of name_fields
  same_name MonthName h = cc
  same_name MonthNameAbbr h = cc
  same_name MeridianLower h = cc
  same_name MeridianUpper h = cc
  same_name WeekDayName h = cc
  same_name WeekDayNameAbbr h = cc

  same_text : (c : Combination) (f : Flags) → EachFree (combination_free c) → EachField (combination_fields c) → combination_text c f r ≡ combination_text c f r'
  unfolding combination_text combination_free combination_fields
  same_text CombinationDateTime f g h = cc
  same_text CombinationDate f g h = cc
  same_text CombinationIso8601 f g h = cc
  same_text CombinationVmsDate f g h = cc
  same_text CombinationTime12h f g h = cc
  same_text CombinationHourMinute24h f g h = cc
  same_text CombinationTime24h f g h = cc

  same_length : (c : Combination) → EachFree (combination_free c) → combination_length c r.year ≡ combination_length c r'.year
  unfolding combination_length combination_free
  same_length CombinationDateTime g = cc
  same_length CombinationDate g = refl
  same_length CombinationIso8601 g = cc
  same_length CombinationVmsDate g = cc
  same_length CombinationTime12h g = refl
  same_length CombinationHourMinute24h g = refl
  same_length CombinationTime24h g = refl

  same_lead : (s : Spec) (p : Piece) → EachFree (free_of s) → lead_of s p r.year ≡ lead_of s p r'.year
  unfolding lead_of free_of
  same_lead (number n) p g = refl
  same_lead (name n) p g = refl
  same_lead (fraction f) p g = refl
  same_lead (offset o) p g = refl
  same_lead TimeZoneName p g = refl
  same_lead (fixed f) p g = refl
  same_lead (combination c) p g = rw (same_length c g)

  same_body : (s : Spec) (p : Piece) → EachFree (free_of s) → EachField (fields_of s) → body_of s p r zone ≡ body_of s p r' zone'
  unfolding body_of free_of fields_of
  same_body (number n) p g h = rw (same_value n g h)
  same_body (name n) p g h = rw (same_name n h)
  same_body (fraction f) p g h = cc
  same_body (offset o) p g h = cc
  same_body TimeZoneName p g h = cc
  same_body (fixed f) p g h = refl
  same_body (combination c) p g h = rw (same_text c p.flags g h)

  -- ## The events

  pub same_piece : (p : Piece) → Agree p.spec → events_of r zone p ≡ events_of r' zone' p
  unfolding events_of spec_events verdict_of
  same_piece p a =
      rw (same_lead p.spec p a.free, same_checks (fields_of p.spec) a.fields, same_body p.spec p a.free a.fields)

  same_item : (i : Item) → ((p : Piece) → directive p ≡ i → Agree p.spec) → item_events (events_of r zone) i ≡ item_events (events_of r' zone') i
  unfolding item_events
  same_item (literal b) h = refl
  same_item (echo text) h = refl
  same_item (directive p) h = same_piece p (h p refl)
  same_item cut h = refl

  same_events : (is : List Item) → ((p : Piece) → Memᴰ (directive p) is → Agree p.spec) → events (events_of r zone) is ≡ events (events_of r' zone') is
  unfolding events
  same_events [] h = refl
  same_events (i ∷ is) h = ap₂ ◌++◌ (same_item i (λ p e. h p (Memᴰ.head e))) (same_events is (λ p m. h p (Memᴰ.tail m)))

  -- "A field that no directive reads isn't checked." Nor is it written: two records that agree in what the directives read have one outcome.
  -- (Neither zone name is too long, or both are: that is 5, before all else.)
  pub unread_fields : (format : List ℕ) (room : ℕ) → leb (length zone) longest_zone ≡ leb (length zone') longest_zone →
      ((p : Piece) → Memᴰ (directive p) (items format) → Agree p.spec) → formatted format zone r room ≡ formatted format zone' r' room
  unfolding formatted format_events
  unread_fields format room z h = rw (z, same_events (items format) h)
