-- The rules' ISO week is ISO 8601's by the calendar, for every day that exists in its year; and no day has two.
use mathlib.Core.Path.{◌≡◌, refl, sym, ap, ◌∙◌, subst}
use Prim.Native.Nat.{ℕ, ◌+◌, ◌-◌, ◌*◌, ◌/◌, ◌<◌, ◌≤◌}
use native.Mathlib.Omega.{arith}
use lib.IntN.{ℤ, pos, nat_abs, ◌+ℤ◌, ◌-ℤ◌, +ℤ_idr}
use Rattle.rules.specs.declared.IsoWeek.{IsoWeek}
use Rattle.rules.specs.Calendar.{days_in, year_start}
use Rattle.rules.specs.Week.{since_monday, thursday_of, iso_week, Iso8601}
use Rattle.rules.proofs.Shift.{Is, move, same, equal, is_pos, is_add, is_minus, is_some}
use Rattle.rules.proofs.YearLaws.{days_from}
use Rattle.rules.proofs.CalendarLaws.{starts, one_year, leap_is, year_is, room, next_year}
use Rattle.rules.proofs.Dates.{year_one}
use Rattle.rules.proofs.WeekLaws.{iso_cases}

-- ## It is

-- a day counted from the starts of two years, which lie E and D days after s
from_either : (s Y y t : ℤ) (E D o m a : ℕ) → Y ≡ s +ℤ pos E → y ≡ s +ℤ pos D → Is t m a → o + E + m ≡ D + a → Y +ℤ pos o ≡ y +ℤ t
from_either s Y y t E D o m a e f i h =
    let k = nat_abs s in
    let v = is_some s k (omega arith) in
    let n = v.0 + D + a in
    rw (e, f)
    (equal (move (k + m) n (omega arith) (is_add (is_add v.1 (is_pos E)) (is_pos o)))
    (move (k + m) n (omega arith) (is_add (is_add v.1 (is_pos D)) i)))

module _ (y : ℤ) (w d : ℕ) (from : 1 ≤ d) (to : d ≤ days_in y) where
  thursday_is : Is (thursday_of w d) (since_monday w) (d - 1 + 3)
  thursday_is = move (since_monday w) (d - 1 + 3) (omega arith) (is_add (is_minus (is_pos (d - 1)) (is_pos (since_monday w))) (is_pos 3))

  year_before : year_start y ≡ year_start (y -ℤ pos 1) +ℤ pos (days_in (y -ℤ pos 1))
  year_before = ap year_start (sym back) ∙ next_year (y -ℤ pos 1)
    where
      back : y -ℤ pos 1 +ℤ pos 1 ≡ y
      back =
          let k = nat_abs y in
          let v = is_some y k (omega arith) in
          equal (move (k + 1) (v.0 + 1) (omega arith) (is_add (is_minus v.1 (is_pos 1)) (is_pos 1))) (move (k + 1) (v.0 + 1) (omega arith) v.1)

  pub iso_8601 : Iso8601 y w d (iso_week y w d)
  iso_8601 =
      let here = sym (+ℤ_idr (year_start y)) in
      iso_cases y w d (Iso8601 y w d)
      (λ h. record {
        ordinal = days_in (y -ℤ pos 1) + (d - 1 + 3) - since_monday w;
        in_year = omega (arith, days_from (y -ℤ pos 1));
        thursday = from_either (year_start (y -ℤ pos 1)) _ _ _ 0 (days_in (y -ℤ pos 1)) _ _ _ (sym (+ℤ_idr (year_start (y -ℤ pos 1)))) year_before thursday_is (omega (arith, days_from (y -ℤ pos 1)));
        week = refl;
      })
      (λ h l. record {
        ordinal = d - 1 + 3 - since_monday w;
        in_year = l;
        thursday = from_either (year_start y) _ _ _ 0 0 _ _ _ here here thursday_is (omega arith);
        week = refl;
      })
      (λ h. record {
        ordinal = d - 1 + 3 - since_monday w - days_in y;
        in_year = omega (arith, days_from (y +ℤ pos 1));
        thursday = from_either (year_start y) _ _ _ (days_in y) 0 _ _ _ (next_year y) here thursday_is (omega arith);
        week = refl;
      })

-- ## And nothing else is

module _ (y z t : ℤ) (o p : ℕ) (a : o < days_in y) (b : p < days_in z) (e : year_start y +ℤ pos o ≡ t) (f : year_start z +ℤ pos p ≡ t) where
  -- the two years, shifted into ℕ by the same number of 400 years
  abbrev shift : ℕ
  shift = nat_abs y + nat_abs z + 1

  pub one_year_holds : (y ≡ z) × (o ≡ p)
  unfolding days_in
  one_year_holds =
      let u = room y shift (omega arith) in
      let v = room z shift (omega arith) in
      let i = is_add (year_is y shift u.0 u.1) (is_pos o) in
      let j = is_add (year_is z shift v.0 v.1) (is_pos p) in
      let n : starts u.0 + o ≡ starts v.0 + p = omega (arith, same (subst (λ (x : ℤ). Is x (146097 * shift + 0) (starts u.0 + o)) e i) (subst (λ (x : ℤ). Is x (146097 * shift + 0) (starts v.0 + p)) f j)) in
      let k : u.0 ≡ v.0 =
      year_one (starts u.0 + o) u.0 v.0 (record { begun = omega arith; not_over = omega (arith, one_year u.0, leap_is y shift (u.0 + 1) u.1) })
      (record { begun = omega arith; not_over = omega (arith, one_year v.0, leap_is z shift (v.0 + 1) v.1) }) in
      (equal u.1 (subst (λ (x : ℕ). Is z (400 * shift) (x + 1)) (sym k) v.1), omega (arith, ap starts k))

pub iso_8601_once : (y : ℤ) (w d : ℕ) (a b : IsoWeek) → Iso8601 y w d a → Iso8601 y w d b → a ≡ b
iso_8601_once y w d a b p q =
    let e = one_year_holds a.year b.year _ p.ordinal q.ordinal p.in_year q.in_year p.thursday q.thursday in
    λ i. record { year = e.0 i; week = (p.week ∙ ap (λ (n : ℕ). n / 7 + 1) e.1 ∙ sym q.week) i }
