-- Every day has exactly one date, and how it is found. k is a number of 400 years by which all is shifted into ℕ.
use mathlib.Core.Path.{◌≡◌, refl, sym, ap, subst}
use mathlib.Core.Bool.{Bool, true, cond, ◌&&◌}
use mathlib.Core.List.{sum}
use Prim.Native.Nat.{ℕ, zero, suc, ◌+◌, ◌-◌, ◌*◌, ◌/◌, ◌<◌, ◌≤◌}
use native.Mathlib.Decide.{dec_lt}
use native.Mathlib.Omega.{arith}
use lib.Dec.{leb, ltb}
use lib.IntN.{ℤ, pos, nat_abs, ◌-ℤ◌}
use borrow.Author.Tests.{leb-true, ltb-true}
use Rattle.rules.specs.Calendar.{leap_day, months, month_days, days_before, year_day, day_number, DateOf}
use Rattle.rules.proofs.RecordLaws.{both}
use Rattle.rules.proofs.Shift.{Is, move, same, equal, is_pos, is_add, is_minus, is_some}
use Rattle.rules.proofs.YearLaws.{leap_day_to}
use Rattle.rules.proofs.CalendarLaws.{starts, one_year, leap_is, year_is, room, every, every_at, month_in, month_after}

-- ## The year of a day

-- day n from year 1 on lies in the year after z years
pub record InYear (n z : ℕ) : Type 0 where
  pub begun : starts z ≤ n
  pub not_over : n < starts (z + 1)

pub year_guessed : (n : ℕ) → starts (400 * n / 146097) ≤ n
unfolding starts
year_guessed n = omega arith

two_more : (n : ℕ) → n < starts (400 * n / 146097 + 2)
unfolding starts
two_more n = omega arith

-- the guess is right, or one short
pub year_short : (n : ℕ) → starts (400 * n / 146097 + 1) ≤ n → InYear n (400 * n / 146097 + 1)
year_short n h =
    let e : 400 * n / 146097 + 2 ≡ 400 * n / 146097 + 1 + 1 = omega arith in
    record { begun = h; not_over = subst (λ (z : ℕ). n < starts z) e (two_more n) }

year_found : (n : ℕ) → (z : ℕ) × InYear n z
year_found n =
    let z = 400 * n / 146097 in
    elim (dec_lt n (starts (z + 1))) [
      | yes h ↦ (z, record { begun = year_guessed n; not_over = h })
      | no h ↦ (z + 1, year_short n (omega arith))
    ]

rising : (z k : ℕ) → starts z ≤ starts (z + k)
rising z zero = let e : z ≡ z + 0 = omega arith in subst (λ (n : ℕ). starts z ≤ starts n) e (omega arith)
rising z (suc k) =
    let e : z + suc k ≡ z + k + 1 = omega arith in
    rw e (omega (arith, rising z k, one_year (z + k)))

pub year_one : (n y z : ℕ) → InYear n y → InYear n z → y ≡ z
year_one n y z a b =
    elim (dec_lt y z) [
      | yes h ↦ absurd (over y z h a.not_over b.begun)
      | no h ↦ elim (dec_lt z y) [ yes k ↦ absurd (over z y k b.not_over a.begun) | no k ↦ omega arith ]
    ]
  where
    over : (y z : ℕ) → y < z → n < starts (y + 1) → starts z ≤ n → ⊥
    over y z h b c =
        let e : y + 1 + (z - (y + 1)) ≡ z = omega arith in
        let l : starts (y + 1) ≤ starts z = rw e at (rising (y + 1) (z - (y + 1))) in
        omega arith

-- ## The month of a day

-- day x of the year, counted from 0, lies in month m
pub record InMonth (leap x m : ℕ) : Type 0 where
  pub from : 1 ≤ m
  pub to : m ≤ 12
  pub begun : days_before leap m ≤ x
  pub not_over : x < days_before leap m + month_days leap m

unfoldable pub month_at : ℕ → ℕ → ℕ
month_at leap x = cond (ltb x (59 + leap)) (x / 31 + 1) ((5 * (x - (59 + leap)) + 2) / 153 + 3)

abbrev test : ℕ → ℕ → Bool
test leap x =
    let m = month_at leap x in
    (leb 1 m && leb m 12) && (leb (days_before leap m) x && ltb x (days_before leap m + month_days leap m))

tested : (leap : ℕ) → leap ≤ 1 → every (365 + leap) (test leap) ≡ true
unfolding month_at days_before month_days months sum
tested zero h = refl
tested (suc zero) h = refl
tested (suc (suc leap)) h = absurd (omega arith)

pub month_at_lem : (leap x : ℕ) → leap ≤ 1 → x < 365 + leap → InMonth leap x (month_at leap x)
month_at_lem leap x h k =
    let t = both _ _ (every_at (test leap) (365 + leap) (tested leap h) x k) in
    let range = both _ _ t.0 in
    let place = both _ _ t.1 in
    record { from = leb-true _ _ range.0; to = leb-true _ _ range.1; begun = leb-true _ _ place.0; not_over = ltb-true _ _ place.1 }

-- a later month begins after an earlier one
months_rise : (leap m k : ℕ) → leap ≤ 1 → 1 ≤ m → m + suc k ≤ 12 → days_before leap m + month_days leap m ≤ days_before leap (m + suc k)
months_rise leap m zero h from to = rw (month_after leap m h from (omega arith)) (omega arith)
months_rise leap m (suc k) h from to =
    let e : m + suc (suc k) ≡ m + suc k + 1 = omega arith in
    rw (e, month_after leap (m + suc k) h (omega arith) (omega arith)) (omega (arith, months_rise leap m k h from (omega arith)))

month_one : (leap x m n : ℕ) → leap ≤ 1 → InMonth leap x m → InMonth leap x n → m ≡ n
month_one leap x m n h a b =
    elim (dec_lt m n) [
      | yes l ↦ absurd (over m n l a.from b.to a.not_over b.begun)
      | no l ↦ elim (dec_lt n m) [ yes k ↦ absurd (over n m k b.from a.to b.not_over a.begun) | no k ↦ omega arith ]
    ]
  where
    over : (m n : ℕ) → m < n → 1 ≤ m → n ≤ 12 → x < days_before leap m + month_days leap m → days_before leap n ≤ x → ⊥
    over m n l from to p q =
        let e : m + suc (n - suc m) ≡ n = omega arith in
        let r : days_before leap m + month_days leap m ≤ days_before leap n = rw e at (months_rise leap m (n - suc m) h from (omega arith)) in
        omega arith

-- ## The date of a day

-- day n from year 1 on is day d of month m after z years
pub record Placed (n z m d : ℕ) : Type 0 where
  pub year : InYear n z
  pub month : InMonth (leap_day (pos (z + 1))) (n - starts z) m
  pub day : days_before (leap_day (pos (z + 1))) m + d ≡ n - starts z + 1

placed_one : (n z z' m m' d d' : ℕ) → Placed n z m d → Placed n z' m' d' → (z ≡ z') × (m ≡ m') × (d ≡ d')
placed_one n z z' m m' d d' a b =
    let leap = leap_day (pos (z + 1)) in
    let e : z ≡ z' = year_one n z z' a.year b.year in
    let c : Placed n z m' d' = subst (λ (y : ℕ). Placed n y m' d') (sym e) b in
    let f : m ≡ m' = month_one leap (n - starts z) m m' (leap_day_to (pos (z + 1))) a.month c.month in
    (e, f, omega (arith, a.day, c.day, ap (days_before leap) f))

-- the number of a date, shifted
pub day_is : (y : ℤ) (m d k z : ℕ) → Is y (400 * k) (z + 1) → Is (day_number y m d) (146097 * k + 719163) (starts z + (days_before (leap_day (pos (z + 1))) m + d))
unfolding day_number year_day
day_is y m d k z h =
    rw (leap_is y k (z + 1) h)
    (move (146097 * k + 719163) (starts z + (days_before (leap_day (pos (z + 1))) m + d)) (omega arith)
    (is_minus (is_add (year_is y k z h) (is_pos (days_before (leap_day (pos (z + 1))) m + d))) (is_pos 719163)))

module _ (v y : ℤ) (k n z m d : ℕ) (day : Is v (146097 * k + 719162) n) (year : Is y (400 * k) (z + 1)) where
  pub placed_date : Placed n z m d → DateOf v y m d
  placed_date w =
      let leap = leap_day (pos (z + 1)) in
      let h = w.month in
      record {
        exists = record { month_from = h.from; month_to = h.to; day_from = omega (arith, w.day, h.begun); day_to = rw (leap_is y k (z + 1) year) (omega (arith, w.day, h.not_over)) };
        number = equal (move (146097 * k + 719163) (n + 1) (omega (arith, w.day, w.year.begun)) (day_is y m d k z year)) (move (146097 * k + 719163) (n + 1) (omega arith) day);
      }

  pub date_placed : DateOf v y m d → Placed n z m d
  date_placed w =
      let leap = leap_day (pos (z + 1)) in
      let x = w.exists in
      let to : d ≤ month_days leap m = rw (leap_is y k (z + 1) year) at x.day_to in
      let i : Is v (146097 * k + 719163) (starts z + (days_before leap m + d)) = rw w.number at (day_is y m d k z year) in
      let e : n + 1 ≡ starts z + (days_before leap m + d) = omega (arith, same day i) in
      let l = month_in leap m (leap_day_to (pos (z + 1))) x.month_from x.month_to in
      record {
        year = record { begun = omega arith; not_over = omega (arith, one_year z) };
        month = record { from = x.month_from; to = x.month_to; begun = omega arith; not_over = omega arith };
        day = omega arith;
      }

-- ## Exactly one date

pub date_unique : (n y y' : ℤ) (m m' d d' : ℕ) → DateOf n y m d → DateOf n y' m' d' → (y ≡ y') × (m ≡ m') × (d ≡ d')
date_unique n y y' m m' d d' a b =
    let k = nat_abs n + nat_abs y + nat_abs y' + 1 in
    let v = is_some n (146097 * k + 719162) (omega arith) in
    let z = room y k (omega arith) in
    let z' = room y' k (omega arith) in
    let s = placed_one v.0 z.0 z'.0 m m' d d' (date_placed n y k v.0 z.0 m d v.1 z.1 a) (date_placed n y' k v.0 z'.0 m' d' v.1 z'.1 b) in
    (equal z.1 (subst (λ (x : ℕ). Is y' (400 * k) (x + 1)) (sym s.0) z'.1), s.1, s.2)

pub date_exists : (n : ℤ) → (y : ℤ) × (m : ℕ) × (d : ℕ) × DateOf n y m d
date_exists n =
    let k = nat_abs n in
    let v = is_some n (146097 * k + 719162) (omega arith) in
    let w = year_found v.0 in
    let z = w.0 in
    let leap = leap_day (pos (z + 1)) in
    let x = v.0 - starts z in
    let y = pos (z + 1) -ℤ pos (400 * k) in
    let h = month_at_lem leap x (leap_day_to (pos (z + 1))) (omega (arith, one_year z, w.1.begun, w.1.not_over)) in (
      y,
      month_at leap x,
      x - days_before leap (month_at leap x) + 1,
      placed_date n y k v.0 z _ _ v.1
          (move (400 * k) (z + 1) (omega arith) (is_minus (is_pos (z + 1)) (is_pos (400 * k)))) (record { year = w.1; month = h; day = omega (arith, h.begun) }),
    )
