-- The day of the year in a stamp (02, request 2): whatever prints it, or a week of it, prints those of a day that exists in its year.
use mathlib.Core.Path.{◌≡◌, refl, ap, ◌∙◌}
use mathlib.Core.Bool.{Bool, true, false, cond, ◌&&◌}
use mathlib.Core.List.{List, ◌∷◌, ◌++◌, map}
use Prim.Native.Nat.{ℕ, ◌+◌, ◌≤◌}
use lib.IntN.{ℤ, pos}
use Rattle.rules.specs.declared.Record.{Record}
use Rattle.rules.specs.declared.IsoWeek.{IsoWeek}
use Rattle.rules.specs.declared.Number.{Number}
use Rattle.rules.specs.declared.Number.TheVariants.{YearDay, YearIso8601, YearIso8601Rem100, WeekNumberIso8601, WeekNumberFromSunday, WeekNumberFromMonday}
use Rattle.rules.specs.declared.Spec.TheVariants.{Number as number}
use Rattle.rules.specs.declared.Piece.{Piece}
use Rattle.rules.specs.Record.{weekday, day_of_year, within, ok_field, all_ok}
use Rattle.rules.specs.Event.{Event, write, text_of, done}
use Rattle.rules.specs.Decimal.{floor_mod}
use Rattle.rules.specs.Calendar.{is_leap, leap_day, days_in}
use Rattle.rules.specs.Week.{iso_week, Iso8601}
use Rattle.rules.specs.Writing.{width_or, value_of, default_width, fill_of, number_writes, number_fields, fields_of, lead_of, body_of, verdict, verdict_of, spec_events, events_of}
use Rattle.rules.specs.Format.{Item, directive, items, events, formatted}
use Rattle.rules.proofs.IsoWeeks.{iso_8601}
use Rattle.rules.proofs.RecordLaws.{Each, ranges_of}
use Rattle.rules.proofs.Stamped.{passed_check, printed}

-- ## The check

-- day 366 passes in leap years alone
pub day_366 : (r : Record) (zone : List ℕ) → r.day_of_year ≡ 366 → ok_field day_of_year r zone ≡ is_leap r.year
unfolding ok_field days_in leap_day
day_366 r zone e = rw e (passes (is_leap r.year))
  where
    passes : (b : Bool) → within 1 (365 + cond b 1 0) 366 ≡ b
    passes true = refl
    passes false = refl

-- `j U W V G g`
pub data ReadsDay : Number → Type 0 where
  reads_j : ReadsDay YearDay
  reads_U : ReadsDay WeekNumberFromSunday
  reads_W : ReadsDay WeekNumberFromMonday
  reads_V : ReadsDay WeekNumberIso8601
  reads_G : ReadsDay YearIso8601
  reads_g : ReadsDay YearIso8601Rem100

fails_last : (b c : Bool) → c ≡ false → verdict (b && (c && true)) ≡ 1
unfolding verdict
fails_last true c h = rw h
fails_last false c h = refl

-- "the day-of-year check takes the year too and answers InvalidTime for 366 in a common year, for `j U W V G g`"
pub common_366 : {n : Number} → ReadsDay n → (r : Record) (zone : List ℕ) → is_leap r.year ≡ false → r.day_of_year ≡ 366 → verdict_of (number n) r zone ≡ 1
unfolding verdict_of fields_of number_fields all_ok
common_366 reads_j r zone c e = fails_last true _ (day_366 r zone e ∙ c)
common_366 reads_U r zone c e = fails_last (ok_field weekday r zone) _ (day_366 r zone e ∙ c)
common_366 reads_W r zone c e = fails_last (ok_field weekday r zone) _ (day_366 r zone e ∙ c)
common_366 reads_V r zone c e = fails_last (ok_field weekday r zone) _ (day_366 r zone e ∙ c)
common_366 reads_G r zone c e = fails_last (ok_field weekday r zone) _ (day_366 r zone e ∙ c)
common_366 reads_g r zone c e = fails_last (ok_field weekday r zone) _ (day_366 r zone e ∙ c)

-- ## The text

-- the text of a number under a directive's flags, padding and width
abbrev pub number_text : Piece → Number → ℤ → List ℕ
number_text p n value = text_of (map write (number_writes p.flags.left (fill_of n p.padding) (width_or p.width (default_width n value)) value))

-- `G`, `g` and `V`, and what each prints of an ISO year and week
pub data OfWeek (w : IsoWeek) : Number → ℤ → Type 0 where
  of_G : OfWeek w YearIso8601 w.year
  of_g : OfWeek w YearIso8601Rem100 (pos (floor_mod w.year 100))
  of_V : OfWeek w WeekNumberIso8601 (pos w.week)

day_of : {w : IsoWeek} {n : Number} {value : ℤ} → OfWeek w n value → ReadsDay n
day_of of_G = reads_G
day_of of_g = reads_g
day_of of_V = reads_V

abbrev pub week_of : Record → IsoWeek
week_of r = iso_week r.year r.day_of_week r.day_of_year

value_is : (r : Record) {n : Number} {value : ℤ} → OfWeek (week_of r) n value → value_of n r ≡ value
unfolding value_of
value_is r of_G = refl
value_is r of_g = refl
value_is r of_V = refl

-- a stamp, and a directive of its format that prints a number
module _ (format zone text : List ℕ) (r : Record) (room : ℕ) (stamp : formatted format zone r room ≡ done text)
    (before after : List Item) (p : Piece) (found : items format ≡ before ++ (directive p ∷ after)) (n : Number) (prints : p.spec ≡ number n) where
  abbrev es : List Item → List Event
  es = events (events_of r zone)

  -- its fields are in range
  pub fields_passed : Each (number_fields n) r
  unfolding fields_of
  fields_passed = ranges_of (number_fields n) r zone (passed_check format zone text r room stamp before after p found (number n) prints)

  -- its text stands between that of the items before and that of those after
  pub number_printed : text ≡ text_of (es before) ++ (number_text p n (value_of n r) ++ text_of (es after))
  unfolding spec_events lead_of body_of text_of
  number_printed = printed format zone text r room stamp before after p found (number n) prints

  -- so the day exists in its year, for each of `j U W V G g`
  pub day_exists : ReadsDay n → (1 ≤ r.day_of_year) × (r.day_of_year ≤ days_in r.year)
  unfolding number_fields
  day_exists reads = go reads fields_passed
    where
      go : {n : Number} → ReadsDay n → Each (number_fields n) r → (1 ≤ r.day_of_year) × (r.day_of_year ≤ days_in r.year)
      go reads_j h = h.0
      go reads_U h = h.1.0
      go reads_W h = h.1.0
      go reads_V h = h.1.0
      go reads_G h = h.1.0
      go reads_g h = h.1.0

  -- "ISO year and week are those of ISO 8601": whatever prints `G`, `g` or `V` prints them
  pub weeks_of_iso_8601 : (value : ℤ) → OfWeek (week_of r) n value →
      Iso8601 r.year r.day_of_week r.day_of_year (week_of r) × (text ≡ text_of (es before) ++ (number_text p n value ++ text_of (es after)))
  weeks_of_iso_8601 value o =
      let d = day_exists (day_of o) in
      (iso_8601 _ _ _ d.0 d.1, number_printed ∙ ap (λ (z : ℤ). text_of (es before) ++ (number_text p n z ++ text_of (es after))) (value_is r o))
