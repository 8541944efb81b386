-- A record with fields out of range has a twin in range: every event is the same, up to a check that fails.
use mathlib.Core.Path.{◌≡◌, refl}
use mathlib.Core.Bool.{Bool, true, false, cond}
use mathlib.Core.List.{List, map}
use mathlib.Core.Logic.{inl, inr}
use Prim.Native.Nat.{ℕ, zero, suc, ◌≤◌}
use native.Mathlib.Omega.{arith}
use borrow.Author.Tests.{le-leb}
use lib.Dec.{T, leb, eqb-suc-zero, lit≤}
use lib.ListN.{length, replicate, length-replicate}
use lib.IntN.{ℤ}
use Rattle.rules.specs.declared.Record.{Record}
use Rattle.rules.specs.declared.Flags.{Flags}
use Rattle.rules.specs.declared.Number.{Number}
use Rattle.rules.specs.declared.Number.TheVariants.{Year4Digits, YearDiv100, YearRem100, Month, MonthDayZero, MonthDaySpace, YearDay, Hour24hZero, Hour24hSpace, Hour12hZero, Hour12hSpace, Minute, Second, WeekDayFrom1, WeekDayFrom0, YearIso8601, YearIso8601Rem100, WeekNumberIso8601, WeekNumberFromSunday, WeekNumberFromMonday, SecondsSinceEpoch}
use Rattle.rules.specs.declared.Name.{Name}
use Rattle.rules.specs.declared.Name.TheVariants.{MonthName, MonthNameAbbr, MeridianLower, MeridianUpper, WeekDayName, WeekDayNameAbbr}
use Rattle.rules.specs.declared.Combination.{Combination}
use Rattle.rules.specs.declared.Combination.TheVariants.{CombinationDateTime, CombinationDate, CombinationIso8601, CombinationVmsDate, CombinationTime12h, CombinationHourMinute24h, CombinationTime24h}
use Rattle.rules.specs.declared.Spec.{Spec}
use Rattle.rules.specs.declared.Spec.TheVariants.{Number as number, Name as name, Fraction as fraction, Offset as offset, TimeZoneName, Fixed as fixed, Combination as combination}
use Rattle.rules.specs.declared.Piece.{Piece}
use Rattle.rules.specs.Ascii.{byte}
use Rattle.rules.specs.Record.{month, day, hour, minute, second, nanoseconds, weekday, day_of_year, zone_name, record_of, last_day_of, within, zone_ok, ok_field, InRange}
use Rattle.rules.specs.Event.{write}
use Rattle.rules.specs.Name.{name_of}
use Rattle.rules.specs.Writing.{value_of, combination_text, number_fields, name_fields, combination_fields, fields_of, lead_of, body_of, spec_events, events_of}
use Rattle.rules.specs.Size.{Excused}
use Rattle.rules.proofs.RecordLaws.{Passed}
use Rattle.rules.proofs.YearLaws.{days_from}
use Rattle.longest.specs.Witness.{Stamp}
use Rattle.longest.proofs.Beside.{Beside, fails, beside_self, beside_join}
use Rattle.longest.proofs.Checks.{check_cases, check_passes}

-- each field as it is, or else one in range
unfoldable pub mend : Record → List ℕ → Stamp
mend r zone =
    record {
      time =
          record_of r.year
          (cond (ok_field month r zone) r.month 1)
          (cond (ok_field day r zone) r.day 1)
          (cond (ok_field hour r zone) r.hour 0)
          (cond (ok_field minute r zone) r.minute 0)
          (cond (ok_field second r zone) r.second 0)
          (cond (ok_field nanoseconds r zone) r.nanoseconds 0)
          (cond (ok_field weekday r zone) r.day_of_week 0)
          (cond (ok_field day_of_year r zone) r.day_of_year 1)
          r.to_int r.is_utc r.utc_offset;
      zone = cond (ok_field zone_name r zone) zone (replicate (length zone) (byte "A"));
    }

repaired : {A : Type 0} (test : A → Bool) (value other : A) → T (test other) → T (test (cond (test value) value other))
repaired test value other h = go (test value) refl
  where
    go : (b : Bool) → test value ≡ b → T (test (cond b value other))
    go true e = rw e tt
    go false e = h

pub letters_ok : (n : ℕ) → T (zone_ok (replicate n (byte "A")))
unfolding zone_ok
letters_ok zero = tt
letters_ok (suc n) = letters_ok n

-- a day that every year has
pub day_ok : (year : ℤ) (n : ℕ) → 1 ≤ n → n ≤ 365 → T (within 1 (last_day_of year) n)
day_ok year n h l = rw (le-leb 1 n h, le-leb n (last_day_of year) (omega (arith, days_from year))) tt

pub mend_in_range : (r : Record) (zone : List ℕ) → InRange (mend r zone).time (mend r zone).zone
unfolding mend ok_field
mend_in_range r zone month = repaired (within 1 12) r.month 1 tt
mend_in_range r zone day = repaired (within 1 31) r.day 1 tt
mend_in_range r zone hour = repaired (λ n. leb n 23) r.hour 0 tt
mend_in_range r zone minute = repaired (λ n. leb n 59) r.minute 0 tt
mend_in_range r zone second = repaired (λ n. leb n 60) r.second 0 tt
mend_in_range r zone nanoseconds = repaired (λ n. leb n 999999999) r.nanoseconds 0 tt
mend_in_range r zone weekday = repaired (λ n. leb n 6) r.day_of_week 0 tt
mend_in_range r zone day_of_year = repaired (within 1 (last_day_of r.year)) r.day_of_year 1 (day_ok r.year 1 (lit≤ tt) (lit≤ tt))
mend_in_range r zone zone_name = repaired zone_ok zone (replicate (length zone) (byte "A")) (letters_ok (length zone))

pub mend_zone : (r : Record) (zone : List ℕ) → length (mend r zone).zone ≡ length zone
unfolding mend
mend_zone r zone = go (ok_field zone_name r zone)
  where
    go : (b : Bool) → length (cond b zone (replicate (length zone) (byte "A"))) ≡ length zone
    go true = refl
    go false = length-replicate (length zone) (byte "A")

module _ (r : Record) (zone : List ℕ) where
  -- a directive whose fields pass writes the same

  value_kept : (n : Number) → Passed (number_fields n) r zone → value_of n (mend r zone).time ≡ value_of n r
  unfolding value_of number_fields mend
  value_kept Year4Digits h = refl
  value_kept YearDiv100 h = refl
  value_kept YearRem100 h = refl
  value_kept Month h = rw h.0
  value_kept MonthDayZero h = rw h.0
  value_kept MonthDaySpace h = rw h.0
  value_kept YearDay h = rw h.0
  value_kept Hour24hZero h = rw h.0
  value_kept Hour24hSpace h = rw h.0
  value_kept Hour12hZero h = rw h.0
  value_kept Hour12hSpace h = rw h.0
  value_kept Minute h = rw h.0
  value_kept Second h = rw h.0
  value_kept WeekDayFrom1 h = rw h.0
  value_kept WeekDayFrom0 h = rw h.0
  value_kept YearIso8601 h = rw (h.0, h.1.0)
  value_kept YearIso8601Rem100 h = rw (h.0, h.1.0)
  value_kept WeekNumberIso8601 h = rw (h.0, h.1.0)
  value_kept WeekNumberFromSunday h = rw (h.0, h.1.0)
  value_kept WeekNumberFromMonday h = rw (h.0, h.1.0)
  value_kept SecondsSinceEpoch h = refl

  name_kept : (n : Name) → Passed (name_fields n) r zone → name_of n (mend r zone).time ≡ name_of n r
  unfolding name_of name_fields mend
  name_kept MonthName h = rw h.0
  name_kept MonthNameAbbr h = rw h.0
  name_kept MeridianLower h = rw h.0
  name_kept MeridianUpper h = rw h.0
  name_kept WeekDayName h = rw h.0
  name_kept WeekDayNameAbbr h = rw h.0

  combination_kept : (c : Combination) (f : Flags) → Passed (combination_fields c) r zone → combination_text c f (mend r zone).time ≡ combination_text c f r
  unfolding combination_text combination_fields mend
  combination_kept CombinationDateTime f h = rw (h.0, h.1.0, h.1.1.0, h.1.1.1.0, h.1.1.1.1.0, h.1.1.1.1.1.0)
  combination_kept CombinationDate f h = rw (h.0, h.1.0)
  combination_kept CombinationIso8601 f h = rw (h.0, h.1.0)
  combination_kept CombinationVmsDate f h = rw (h.0, h.1.0)
  combination_kept CombinationTime12h f h = rw (h.0, h.1.0, h.1.1.0)
  combination_kept CombinationHourMinute24h f h = rw (h.0, h.1.0)
  combination_kept CombinationTime24h f h = rw (h.0, h.1.0, h.1.1.0)

  body_kept : (s : Spec) (p : Piece) → Passed (fields_of s) r zone → body_of s p (mend r zone).time (mend r zone).zone ≡ body_of s p r zone
  unfolding body_of fields_of
  body_kept (number n) p h = rw (value_kept n h)
  body_kept (name n) p h = rw (name_kept n h)
  body_kept (fraction f) p h = unfold mend in rw h.0
  body_kept (offset o) p h = unfold mend in refl
  body_kept TimeZoneName p h = unfold mend in rw h.0
  body_kept (fixed f) p h = refl
  body_kept (combination c) p h = rw (combination_kept c p.flags h)

  lead_beside : (p : Piece) → Beside Excused (map write (lead_of p.spec p r.year)) (map write (lead_of p.spec p (mend r zone).time.year))
  unfolding mend
  lead_beside p = beside_self _

  -- the twin's check passes; its own passes too, or fails with an excuse
  pub mend_beside : (p : Piece) → Beside Excused (events_of r zone p) (events_of (mend r zone).time (mend r zone).zone p)
  unfolding events_of spec_events
  mend_beside p =
      beside_join (lead_beside p)
      (elim (check_cases r zone p.spec) [
        | inl k ↦ rw (k.0, check_passes (mend r zone).time (mend r zone).zone (mend_in_range r zone) p.spec, body_kept p.spec p k.1) (beside_self _)
        | inr k ↦ rw (k.1, eqb-suc-zero k.0) (fails k.2)
      ])
