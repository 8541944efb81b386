-- Week numbers and ISO weeks in numbers of ℕ, and that the original's function answers the rules' week for a day that exists.
use mathlib.Core.Path.{◌≡◌, ap, ◌∙◌, subst⁻¹}
use Prim.Native.Nat.{ℕ, suc, ◌+◌, ◌-◌, ◌/◌, ◌%◌, ◌<◌, ◌≤◌}
use native.Mathlib.Decide.{dec_lt}
use native.Mathlib.Omega.{arith}
use borrow.Author.Tests.{lt-ltb, le-ltb}
use lib.IntN.{ℤ, pos, ◌+ℤ◌, ◌-ℤ◌}
use lib.Signed.{mag}
use Rattle.rules.specs.declared.IsoWeek.{IsoWeek}
use Rattle.rules.specs.Decimal.{floor_mod}
use Rattle.rules.specs.Calendar.{days_in}
use Rattle.rules.specs.Week.{week_number, since_monday, thursday_of, week_holding, iso_week, current_or_next, iso8601_year_and_week_number}
use Rattle.rules.proofs.FloorLaws.{sub_le, sub_lt, sub_add, mod7_sub, mag_inc, mag_dec}
use Rattle.rules.proofs.YearLaws.{days_from, days_to}
use Rattle.rules.proofs.OriginalWeek.{week_one, week_one_is, answer, original_before, original_begun, begun, not_begun, current_next, current_stay}

-- ## `U` and `W`

pub week_number_nat : (start w d : ℕ) → w ≤ 6 → 1 ≤ d → start ≤ 1 → week_number start w d ≡ (d - 1 + 7 - (d - 1 + 7 - w + start) % 7) / 7
unfolding week_number
week_number_nat start w d a b c =
    let e : (d - 1 + start + 7 - w) % 7 ≡ (d - 1 + 7 - w + start) % 7 = omega arith in
    ap (λ (r : ℕ). (d - 1 + 7 - r) / 7)
    (ap (λ (z : ℤ). floor_mod z 7) (sub_add (d - 1) w start) ∙ mod7_sub (d - 1 + start) w (omega arith) ∙ e)

pub week_number_to : (start : ℕ) (y : ℤ) (w d : ℕ) → d ≤ days_in y → week_number start w d ≤ 53
unfolding week_number
week_number_to start y w d h = omega (arith, days_to y)

-- ## The ISO week by cases

abbrev made : ℤ → ℕ → IsoWeek
made y n = record { year = y; week = n }

-- m days since Monday, the Thursday is day d − 1 + 3 − m, from 0
module _ (y : ℤ) (w d : ℕ) where
  thursday_is : thursday_of w d ≡ pos (d - 1 + 3) -ℤ pos (since_monday w)
  thursday_is = sub_add (d - 1) (since_monday w) 3

  iso_before : d - 1 + 3 < since_monday w → iso_week y w d ≡ made (y -ℤ pos 1) ((days_in (y -ℤ pos 1) + (d - 1 + 3) - since_monday w) / 7 + 1)
  unfolding iso_week week_holding
  iso_before h =
      let D = days_in (y -ℤ pos 1) in
      let e : D - suc (since_monday w - suc (d - 1 + 3)) ≡ D + (d - 1 + 3) - since_monday w = omega (arith, days_from (y -ℤ pos 1)) in
      ap (week_holding y) (thursday_is ∙ sub_lt (d - 1 + 3) (since_monday w) h) ∙ ap (λ (n : ℕ). made (y -ℤ pos 1) (n / 7 + 1)) e

  iso_in : since_monday w ≤ d - 1 + 3 → d - 1 + 3 - since_monday w < days_in y → iso_week y w d ≡ made y ((d - 1 + 3 - since_monday w) / 7 + 1)
  unfolding iso_week week_holding
  iso_in h k = ap (week_holding y) (thursday_is ∙ sub_le (d - 1 + 3) (since_monday w) h) ∙ rw (lt-ltb (d - 1 + 3 - since_monday w) (days_in y) k)

  iso_after : since_monday w ≤ d - 1 + 3 → days_in y ≤ d - 1 + 3 - since_monday w → iso_week y w d ≡ made (y +ℤ pos 1) ((d - 1 + 3 - since_monday w - days_in y) / 7 + 1)
  unfolding iso_week week_holding
  iso_after h k = ap (week_holding y) (thursday_is ∙ sub_le (d - 1 + 3) (since_monday w) h) ∙ rw (le-ltb (d - 1 + 3 - since_monday w) (days_in y) k)

  -- whatever follows in each of the three cases
  pub iso_cases : (P : IsoWeek → Type 0)
      → (d - 1 + 3 < since_monday w → P (made (y -ℤ pos 1) ((days_in (y -ℤ pos 1) + (d - 1 + 3) - since_monday w) / 7 + 1)))
      → (since_monday w ≤ d - 1 + 3 → d - 1 + 3 - since_monday w < days_in y → P (made y ((d - 1 + 3 - since_monday w) / 7 + 1)))
      → (days_in y ≤ d - 1 + 3 - since_monday w → P (made (y +ℤ pos 1) ((d - 1 + 3 - since_monday w - days_in y) / 7 + 1)))
      → P (iso_week y w d)
  iso_cases P f g h =
      elim (dec_lt (d - 1 + 3) (since_monday w)) [
        | yes b ↦ subst⁻¹ P (iso_before b) (f b)
        | no b ↦ elim (dec_lt (d - 1 + 3 - since_monday w) (days_in y)) [
          | yes n ↦ subst⁻¹ P (iso_in (omega arith) n) (g (omega arith) n)
          | no n ↦ subst⁻¹ P (iso_after (omega arith) (omega arith)) (h (omega arith))
        ]
      ]

-- ## Bounds

pub iso_week_to : (y : ℤ) (w d : ℕ) → d ≤ days_in y → (iso_week y w d).week ≤ 53
iso_week_to y w d to =
    iso_cases y w d (λ r. r.week ≤ 53) (λ l. omega (arith, days_to (y -ℤ pos 1))) (λ l n. omega (arith, days_to y)) (λ l. omega arith)

pub iso_year_near : (y : ℤ) (w d : ℕ) → mag (iso_week y w d).year ≤ mag y + 1
iso_year_near y w d =
    iso_cases y w d (λ r. mag r.year ≤ mag y + 1) (λ l. omega (arith, mag_dec y)) (λ l n. omega arith) (λ l. omega (arith, mag_inc y))

-- ## The original

-- for a day that exists in its year
pub iso_original : (y : ℤ) (w d : ℕ) → w ≤ 6 → 1 ≤ d → d ≤ days_in y
    → iso8601_year_and_week_number 1 y (pos w) (pos d) ≡ record { year = (iso_week y w d).year; week = pos (iso_week y w d).week }
iso_original y w d small from to =
    iso_cases y w d (λ r. iso8601_year_and_week_number 1 y (pos w) (pos d) ≡ answer r.year r.week)
    (λ h. original_before y w d (week_one w (d - 1)) from (week_one_is w (d - 1) small) 0 (not_begun w (d - 1) small h)
    ∙ current before (D + d) (omega arith) 0 (omega (arith, days_from before))
    ∙ current_stay before w (D + d - 1) small (omega arith) (omega (arith, days_from before)) (λ k l. omega (arith, days_from before))
    ∙ ap (answer before) (same h))
    (λ h l. current y d from 1 h ∙ current_stay y w (d - 1) small (omega arith) h (λ k n. omega arith))
    (λ h. current y d from 1 (omega (arith, days_from y)) ∙ current_next y w (d - 1) small (omega arith) h (omega arith) ∙ ap (answer (y +ℤ pos 1)) (first h))
  where
    before : ℤ
    before = y -ℤ pos 1

    D : ℕ
    D = days_in before

    current : (y : ℤ) (d : ℕ) → 1 ≤ d → (n : ℕ) → since_monday w ≤ d - 1 + 3 → iso8601_year_and_week_number n y (pos w) (pos d) ≡ current_or_next y (pos w) (pos (d - 1))
    current y d from n h = original_begun y w d (week_one w (d - 1)) from (week_one_is w (d - 1) small) n (begun w (d - 1) small h)

    same : d - 1 + 3 < since_monday w → (D + d - 1 + 3 - since_monday w) / 7 + 1 ≡ (D + (d - 1 + 3) - since_monday w) / 7 + 1
    same h = omega arith

    first : days_in y ≤ d - 1 + 3 - since_monday w → 1 ≡ (d - 1 + 3 - since_monday w - days_in y) / 7 + 1
    first h = omega arith
