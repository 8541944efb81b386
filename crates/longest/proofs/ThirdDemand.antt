-- The sets of the third demand have the two extremes, so its size is the greater of the two lengths.
use Rattle.std.specs.Prelude.{Result}
use mathlib.Core.Path.{◌≡◌, refl}
use mathlib.Core.Bool.{true}
use mathlib.Core.List.{List}
use mathlib.Core.Logic.{◌⊎◌, ◌↔◌}
use Prim.Native.Nat.{ℕ, suc, ◌+◌, ◌/◌, ◌^◌, ◌≤◌, ◌<◌}
use native.Mathlib.Nat.{le_refl}
use native.Mathlib.Omega.{arith}
use lib.Dec.{T, lit≤, lit<}
use lib.ListN.{length}
use lib.IntN.{ℤ, pos, negsuc}
use lib.Signed.{mag, nat_abs-le}
use Rattle.rules.specs.declared.Refusal.{Refusal}
use Rattle.rules.specs.declared.Record.{Record}
use Rattle.rules.specs.declared.Offset.TheVariants.{TimeZoneOffsetColonMinimal}
use Rattle.rules.specs.Record.{within, longest_format, longest_zone}
use Rattle.rules.specs.Refusal.{ByEvent, invalid_format_string, Report, numbered}
use Rattle.rules.specs.Decimal.{digits, digits_within, decimal_text, floor_div}
use Rattle.rules.specs.Calendar.{is_leap, leap_day, days_in}
use Rattle.rules.specs.Week.{week_holding, iso_week}
use Rattle.rules.specs.Offset.{hours_of, minus, extra, Form, hh, hhmm, hh:mm, hh:mm:ss, form_of, length_of_form}
use Rattle.rules.specs.Writing.{value_of, default_width}
use Rattle.rules.specs.Format.{items, fault, valid}
use Rattle.rules.specs.Size.{NoneServes, Kept, Sizing, Typed, AnyStamp, GoodStamp}
use Rattle.rules.proofs.DecimalLaws.{count_le, length_decimal_pos, length_decimal_neg}
use Rattle.rules.proofs.OneAnswer.{one_answer}
use Rattle.rules.proofs.WeekLaws.{iso_year_near}
use Rattle.rules.proofs.WidthLaws.{year_narrow, extra_small}
use Rattle.longest.specs.Witness.{september, december, witness, longest_in, size_of}
use Rattle.longest.proofs.Members.{Sets}
use Rattle.longest.proofs.Extremes.{Extremes, Twin}
use Rattle.longest.proofs.Mending.{mend, mend_in_range, mend_zone, mend_beside}
use Rattle.longest.proofs.Bounds.{Bounds, Within, Meets}
use Rattle.longest.proofs.Witnesses.{witness_in_range, witness_zone, below_either}
use Rattle.longest.proofs.Once.{once, five_if, fault_if, six_if, size_if}
use Rattle.longest.proofs.BySets.{sizing_by}

abbrev bounds : Bounds
bounds = record { year = 11; century = 9; iso = 11; sign = 5; to_int = 20; hours = 7; form = 9 }

-- a number above −10 ^ (k + 1) and below 10 ^ (k + 1) takes at most a sign and k + 1 digits
signed_few : (k : ℕ) (z : ℤ) → mag z + 1 < 10 ^ suc k → length (decimal_text z) ≤ suc (suc k)
signed_few k (pos n) h = omega (arith, length_decimal_pos n, count_le k n (omega arith))
signed_few k (negsuc n) h = omega (arith, length_decimal_neg n, count_le k (n + 1) h)

mag_century : (z : ℤ) → mag (floor_div z 100) ≡ mag z / 100
mag_century (pos n) = refl
mag_century (negsuc n) = refl

form_small : (f : Form) → length_of_form f ≤ 9
unfolding length_of_form
form_small hh = lit≤ tt
form_small hhmm = lit≤ tt
form_small hh:mm = lit≤ tt
form_small hh:mm:ss = lit≤ tt

typed_within : (r : Record) → Typed r → Within bounds r
unfolding value_of default_width
typed_within r t =
    let near = iso_year_near r.year r.day_of_week r.day_of_year in
    record {
      year = signed_few 9 r.year (omega arith);
      century = signed_few 7 (floor_div r.year 100) (omega (arith, mag_century r.year));
      iso = signed_few 9 (iso_week r.year r.day_of_week r.day_of_year).year (omega arith);
      sign = year_narrow r.year;
      iso_sign = year_narrow (iso_week r.year r.day_of_week r.day_of_year).year;
      to_int = signed_few 18 r.to_int (omega arith);
      hours = λ left.
          omega
          (arith, extra_small (minus left r.is_utc r.utc_offset) (hours_of r.utc_offset), count_le 5 (hours_of r.utc_offset) (omega (arith, nat_abs-le r.utc_offset t.utc_offset)));
      form = form_small (form_of TimeZoneOffsetColonMinimal r.utc_offset);
    }

longest_meets : (longest m : ℕ) → Meets bounds (longest_in m longest).time
unfolding witness value_of default_width decimal_text digits digits_within iso_week week_holding days_in leap_day is_leap extra form_of length_of_form
longest_meets longest m =
    record {
      year = lit≤ tt;
      century = lit≤ tt;
      year_in = lit≤ tt;
      iso = lit≤ tt;
      iso_in = lit≤ tt;
      week = lit≤ tt;
      sign = lit≤ tt;
      iso_sign = lit≤ tt;
      to_int = lit≤ tt;
      hours = λ left. lit≤ tt;
      form = lit≤ tt;
    }

longest_good : (longest m : ℕ) → T (within 1 12 m) → GoodStamp longest (longest_in m longest).time (longest_in m longest).zone
longest_good longest m h =
    record {
      typed = unfold witness in record { year = lit< tt; to_int = lit< tt; utc_offset = lit< tt };
      in_range = witness_in_range _ _ _ m longest h;
      short = rw (witness_zone _ _ _ m longest) (le_refl longest);
    }

good_sets : (longest : ℕ) → Sets longest (AnyStamp longest) (GoodStamp longest)
good_sets longest = record { among = λ r zone g. record { typed = g.typed; short = g.short }; short = λ r zone s. s.short; in_range = λ r zone g. g.in_range }

good_extremes : (longest : ℕ) → Extremes (GoodStamp longest) (longest_in september longest) (longest_in december longest)
good_extremes longest =
    record {
      a_in = longest_good longest september tt;
      b_in = longest_good longest december tt;
      below = λ r zone g. below_either bounds _ _ _ longest r zone g.in_range (typed_within r g.typed) g.short (longest_meets longest);
    }

good_twin : (longest : ℕ) (r : Record) (zone : List ℕ) → AnyStamp longest r zone → Twin (GoodStamp longest) r zone
good_twin longest r zone s =
    record {
      twin = mend r zone;
      twin_in =
          record {
            typed = unfold mend in record { year = s.typed.year; to_int = s.typed.to_int; utc_offset = s.typed.utc_offset };
            in_range = mend_in_range r zone;
            short = rw (mend_zone r zone) s.short;
          };
      beside = mend_beside r zone;
    }

-- the third demand
pub size_is : (format : List ℕ) (longest : ℕ) → Sizing (AnyStamp longest) (GoodStamp longest) format longest (size_of format longest)
unfolding size_of
size_is format longest = sizing_by (longest_in september) (longest_in december) (good_sets longest) (good_extremes longest) (good_twin longest) format

-- any two reports that it allows are equal
pub sizing_once : (format : List ℕ) (longest : ℕ) (a b : Report) → Sizing (AnyStamp longest) (GoodStamp longest) format longest a → Sizing (AnyStamp longest) (GoodStamp longest) format longest b → a ≡ b
sizing_once format longest a b = once (good_sets longest) format

-- and so are any two answers
pub size_once : (format : List ℕ) (longest : ℕ) (a b : Result ℕ Refusal) → Sizing (AnyStamp longest) (GoodStamp longest) format longest (numbered a) → Sizing (AnyStamp longest) (GoodStamp longest) format longest (numbered b) → a ≡ b
size_once format longest a b s t = one_answer a b (sizing_once format longest (numbered a) (numbered b) s t)

-- "It answers 5 and 2 exactly where 01's sizing order puts them"
pub five_exactly : (format : List ℕ) (longest : ℕ) → ((size_of format longest).number ≡ 5) ↔ ((longest_format < length format) ⊎ (longest_zone < longest))
five_exactly format longest = five_if (good_sets longest) format (size_is format longest)

pub fault_exactly : (format : List ℕ) (longest : ℕ) {number : ℕ} → ByEvent number → ((size_of format longest).number ≡ number) ↔ (Kept format longest × (fault (items format) ≡ number))
fault_exactly format longest b = fault_if (good_sets longest) format (size_is format longest) b

pub two_exactly : (format : List ℕ) (longest : ℕ) → ((size_of format longest).number ≡ 2) ↔ (Kept format longest × (fault (items format) ≡ 2))
two_exactly format longest = fault_exactly format longest invalid_format_string

-- "NoBuffer exactly if the inputs keep 01's lengths, the format is valid and some such in-range record fits no buffer of 65,536 bytes or fewer"
pub six_exactly : (format : List ℕ) (longest : ℕ) → ((size_of format longest).number ≡ 6) ↔ (Kept format longest × (valid format ≡ true) × NoneServes (GoodStamp longest) format)
six_exactly format longest = six_if (good_sets longest) format (size_is format longest)

-- "and an N in every other case"
pub size_otherwise : (format : List ℕ) (longest : ℕ) → ((size_of format longest).number ≡ 0) ↔ (Kept format longest × (valid format ≡ true) × (NoneServes (GoodStamp longest) format → ⊥))
size_otherwise format longest = size_if (good_sets longest) format (size_is format longest)
