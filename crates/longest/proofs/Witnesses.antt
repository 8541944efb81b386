-- A record in range and within some bounds is below September's witness or December's, if these meet the bounds.
use mathlib.Core.Path.{◌≡◌, refl}
use mathlib.Core.List.{List}
use mathlib.Core.Logic.{◌⊎◌, inl, inr}
use Prim.Native.Nat.{ℕ, ◌≤◌, ◌<◌}
use native.Mathlib.Nat.{le_refl, le_trans}
use native.Mathlib.Omega.{arith}
use native.Mathlib.Decide.{dec_lt}
use lib.Dec.{T, lit≤}
use lib.ListN.{length, length-replicate, length-take}
use lib.IntN.{ℤ, pos}
use Rattle.rules.specs.declared.Record.{Record}
use Rattle.rules.specs.declared.Number.{Number}
use Rattle.rules.specs.declared.Number.TheVariants.{Year4Digits, YearDiv100, YearRem100, Month, MonthDayZero, MonthDaySpace, YearDay, Hour24hZero, Hour24hSpace, Hour12hZero, Hour12hSpace, Minute, Second, WeekDayFrom1, WeekDayFrom0, YearIso8601, YearIso8601Rem100, WeekNumberIso8601, WeekNumberFromSunday, WeekNumberFromMonday, SecondsSinceEpoch}
use Rattle.rules.specs.declared.Name.{Name}
use Rattle.rules.specs.declared.Name.TheVariants.{MonthName, MonthNameAbbr, MeridianLower, MeridianUpper, WeekDayName, WeekDayNameAbbr}
use Rattle.rules.specs.declared.Offset.{Offset}
use Rattle.rules.specs.declared.Offset.TheVariants.{TimeZoneOffsetHourMinute, TimeZoneOffsetHourMinuteColon, TimeZoneOffsetHourMinuteSecondColon, TimeZoneOffsetColonMinimal}
use Rattle.rules.specs.Ascii.{ascii}
use Rattle.rules.specs.Record.{month, day, hour, minute, second, nanoseconds, weekday, day_of_year, zone_name, within, ok_field, InRange}
use Rattle.rules.specs.Decimal.{digits, digits_within, decimal_text}
use Rattle.rules.specs.Name.{day_names, day_name, month_name, name_of}
use Rattle.rules.specs.Week.{week_number}
use Rattle.rules.specs.Offset.{form_of}
use Rattle.rules.specs.Writing.{value_of, default_width}
use Rattle.rules.proofs.RecordLaws.{in_range}
use Rattle.longest.specs.Witness.{september, december, witness}
use Rattle.longest.proofs.NameTables.{month_letters, month_longest, late_month_longest, day_longest}
use Rattle.longest.proofs.Combinations.{length_meridian}
use Rattle.longest.proofs.Mending.{letters_ok, day_ok}
use Rattle.longest.proofs.Measure.{text_length, width_in, form_length, extent_of}
use Rattle.longest.proofs.Growth.{Below}
use Rattle.longest.proofs.Bounds.{Bounds, Within, Meets, few, most, at_most}

module _ (y t o : ℤ) (m longest : ℕ) where
  pub witness_zone : length (witness y t o m longest).zone ≡ longest
  unfolding witness
  witness_zone = simp length-replicate (omega arith)

  pub witness_in_range : T (within 1 12 m) → InRange (witness y t o m longest).time (witness y t o m longest).zone
  unfolding ok_field witness
  witness_in_range h month = h
  witness_in_range h day = tt
  witness_in_range h hour = tt
  witness_in_range h minute = tt
  witness_in_range h second = tt
  witness_in_range h nanoseconds = tt
  witness_in_range h weekday = tt
  witness_in_range h day_of_year = day_ok y 200 (lit≤ tt) (lit≤ tt)
  witness_in_range h zone_name = letters_ok longest

  -- each number of the witness takes the most
  met : (b : Bounds) → Meets b (witness y t o m longest).time → (n : Number) → most b (length (decimal_text (pos m))) n ≤ text_length n (witness y t o m longest).time
  unfolding value_of most witness decimal_text digits digits_within week_number
  met b w Year4Digits = w.year
  met b w YearDiv100 = w.century
  met b w YearRem100 = w.year_in
  met b w Month = le_refl _
  met b w MonthDayZero = lit≤ tt
  met b w MonthDaySpace = lit≤ tt
  met b w YearDay = lit≤ tt
  met b w Hour24hZero = lit≤ tt
  met b w Hour24hSpace = lit≤ tt
  met b w Hour12hZero = lit≤ tt
  met b w Hour12hSpace = lit≤ tt
  met b w Minute = lit≤ tt
  met b w Second = lit≤ tt
  met b w WeekDayFrom1 = lit≤ tt
  met b w WeekDayFrom0 = lit≤ tt
  met b w YearIso8601 = w.iso
  met b w YearIso8601Rem100 = w.iso_in
  met b w WeekNumberIso8601 = w.week
  met b w WeekNumberFromSunday = lit≤ tt
  met b w WeekNumberFromMonday = lit≤ tt
  met b w SecondsSinceEpoch = w.to_int

  names_below : (r : Record) → 3 ≤ length (month_name m) → length (month_name r.month) ≤ length (month_name m) → r.day_of_week ≤ 6 →
      (n : Name) → length (name_of n r) ≤ length (name_of n (witness y t o m longest).time)
  unfolding name_of witness
  names_below r k h d MonthName = h
  names_below r k h d MonthNameAbbr = omega (arith, length-take 3 (month_name r.month), length-take 3 (month_name m))
  names_below r k h d MeridianLower = omega (arith, length_meridian r.hour (ascii "am") (ascii "pm") refl refl)
  names_below r k h d MeridianUpper = omega (arith, length_meridian r.hour (ascii "AM") (ascii "PM") refl refl)
  names_below r k h d WeekDayName = unfold day_name day_names in day_longest r.day_of_week d
  names_below r k h d WeekDayNameAbbr = unfold day_name day_names in omega (arith, length-take 3 (day_name r.day_of_week))

-- the default widths hang on the sign of two years alone
width_below : (r s : Record) → width_in Year4Digits r ≤ width_in Year4Digits s → width_in YearIso8601 r ≤ width_in YearIso8601 s →
    (n : Number) → width_in n r ≤ width_in n s
unfolding default_width value_of
width_below r s h i n =
    elim n as (λ (n : Number). width_in n r ≤ width_in n s) [
      | Year4Digits ↦ h
      | YearDiv100 ↦ le_refl 2
      | YearRem100 ↦ le_refl 2
      | Month ↦ le_refl 2
      | MonthDayZero ↦ le_refl 2
      | MonthDaySpace ↦ le_refl 2
      | YearDay ↦ le_refl 3
      | Hour24hZero ↦ le_refl 2
      | Hour24hSpace ↦ le_refl 2
      | Hour12hZero ↦ le_refl 2
      | Hour12hSpace ↦ le_refl 2
      | Minute ↦ le_refl 2
      | Second ↦ le_refl 2
      | WeekDayFrom1 ↦ le_refl 1
      | WeekDayFrom0 ↦ le_refl 1
      | YearIso8601 ↦ i
      | YearIso8601Rem100 ↦ le_refl 2
      | WeekNumberIso8601 ↦ le_refl 2
      | WeekNumberFromSunday ↦ le_refl 2
      | WeekNumberFromMonday ↦ le_refl 2
      | SecondsSinceEpoch ↦ le_refl 1
    ]

form_below : (r s : Record) → form_length TimeZoneOffsetColonMinimal r ≤ form_length TimeZoneOffsetColonMinimal s → (o : Offset) → form_length o r ≤ form_length o s
unfolding form_of
form_below r s h TimeZoneOffsetHourMinute = le_refl _
form_below r s h TimeZoneOffsetHourMinuteColon = le_refl _
form_below r s h TimeZoneOffsetHourMinuteSecondColon = le_refl _
form_below r s h TimeZoneOffsetColonMinimal = h

september_digits : (m : ℕ) → m < 10 → length (decimal_text (pos m)) ≤ length (decimal_text (pos september))
unfolding decimal_text digits digits_within
september_digits m h = omega (arith, few 0 m h)

december_digits : (m : ℕ) → m < 100 → length (decimal_text (pos m)) ≤ length (decimal_text (pos december))
unfolding decimal_text digits digits_within
december_digits m h = omega (arith, few 1 m h)

module _ (b : Bounds) (y t o : ℤ) (longest : ℕ) (r : Record) (zone : List ℕ) (h : InRange r zone) (i : Within b r) (l : length zone ≤ longest) where
  below : (m : ℕ) → Meets b (witness y t o m longest).time → 3 ≤ length (month_name m) → length (decimal_text (pos r.month)) ≤ length (decimal_text (pos m)) → length (month_name r.month) ≤ length (month_name m) →
      Below (extent_of r zone) (extent_of (witness y t o m longest).time (witness y t o m longest).zone)
  below m w k d n =
      record {
        plain = λ x. le_trans (at_most r zone h b (length (decimal_text (pos m))) i (unfold value_of in d) x) (met y t o m longest b w x);
        width = width_below r (witness y t o m longest).time (le_trans i.sign w.sign) (le_trans i.iso_sign w.iso_sign);
        names = names_below y t o m longest r k n (in_range r zone h weekday);
        hours = λ left. le_trans (i.hours left) (w.hours left);
        form = form_below r (witness y t o m longest).time (le_trans i.form w.form);
        zone = rw (witness_zone y t o m longest) l;
      }

  -- by the month
  pub below_either : ((m : ℕ) → Meets b (witness y t o m longest).time) →
      Below (extent_of r zone) (extent_of (witness y t o september longest).time (witness y t o september longest).zone)
      ⊎ Below (extent_of r zone) (extent_of (witness y t o december longest).time (witness y t o december longest).zone)
  below_either w =
      let f = (in_range r zone h month).0 in
      let g = (in_range r zone h month).1 in
      elim (dec_lt r.month 10) [
        | yes k ↦ inl (below september (w september) (month_letters september (lit≤ tt) (lit≤ tt)) (september_digits r.month k) (month_longest r.month f g))
        | no k ↦
            inr
            (below december (w december) (month_letters december (lit≤ tt) (lit≤ tt)) (december_digits r.month (omega arith))
            (late_month_longest r.month (omega arith) g))
      ]
