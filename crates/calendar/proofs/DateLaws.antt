-- The code's numbers of a day and of a date: days and years from 730,700,000 times 400 years before year 1.
use mathlib.Core.Path.{◌≡◌, sym, ap}
use Prim.Native.Nat.{ℕ, ◌+◌, ◌-◌, ◌*◌, ◌/◌, ◌%◌, ◌<◌, ◌≤◌}
use native.Mathlib.Omega.{arith}
use lib.Dec.{lit<}
use lib.IntN.{ℤ, pos}
use Rattle.rules.specs.Calendar.{leap_day, month_days, days_before, Exists, year_day, weekday_of, DateOf}
use Rattle.rules.proofs.Shift.{Is, move, is_pos, is_add, equal, remainder}
use Rattle.rules.proofs.YearLaws.{leap_day_to}
use Rattle.rules.proofs.CalendarLaws.{starts, one_year, leap_is, month_to, month_after}
use Rattle.rules.proofs.Dates.{InYear, InMonth, placed_date, day_is}
use Rattle.calendar.specs.Inner.{DateFor}

-- a year by its number, its first day and its leap days
pub record YearIs (z s leap : ℕ) : Type 0 where
  pub start : s ≡ starts z
  pub leap_day_lem : leap ≡ leap_day (pos (z + 1))
  pub few : leap ≤ 1

pub year_is : (z s t : ℕ) → s ≡ starts z → t ≡ starts (z + 1) → YearIs z s (t - s - 365) × (s + 365 ≤ t)
year_is z s t e f =
    let l : t ≡ s + (365 + leap_day (pos (z + 1))) = omega (arith, one_year z) in
    let d : t - s - 365 ≡ leap_day (pos (z + 1)) = omega arith in
    (record { start = e; leap_day_lem = d; few = omega (arith, leap_day_to (pos (z + 1))) }, omega arith)

-- a day of the year, from 0
pub inside : {n z s leap : ℕ} → YearIs z s leap → InYear n z → (s ≤ n) × (n - s < 365 + leap)
inside {z = z} y i = (omega (arith, y.start, i.begun), omega (arith, y.start, y.leap_day_lem, i.begun, i.not_over, one_year z))

pub few_years : {n z : ℕ} → InYear n z → 365 * z ≤ n
unfolding starts
few_years {z = z} i = omega (arith, i.begun, few z)
  where
    few : (z : ℕ) → z / 100 ≤ z / 4
    few z = omega arith

-- what the casts ask
pub small : {leap x m b : ℕ} → leap ≤ 1 → InMonth leap x m → b ≡ days_before leap m → (b ≤ x) × (x - b + 1 ≤ 31)
small {leap = leap} {m = m} h i e = (omega (arith, i.begun), omega (arith, i.begun, i.not_over, month_to leap m h i.from i.to))

-- ## The date of a day

weekday_is : {day : ℤ} {n : ℕ} → Is day 106753078619162 n → weekday_of day ≡ (n + 1) % 7
unfolding weekday_of
weekday_is {n = n} i = remainder 7 (lit< tt) 15250439802737 (move (7 * 15250439802737) (n + 1) (omega arith) (is_add i (is_pos 4)))

-- the year, as the laws of dates count
years : {y : ℤ} {z : ℕ} → Is y 292279999999 z → Is y (400 * 730700000) (z + 1)
years {z = z} i = move (400 * 730700000) (z + 1) (omega arith) i

pub date_for : {day y : ℤ} {n z s leap m b : ℕ} → Is day 106753078619162 n → Is y 292279999999 z → InYear n z → YearIs z s leap → InMonth leap (n - s) m → b ≡ days_before leap m →
    DateFor day (record { year = y; month = m; day = n - s - b + 1; day_of_week = (n + 1) % 7; day_of_year = n - s + 1 })
unfolding year_day
date_for {day} {y} {n} {z} {s} {leap} {m} {b} i j w v h e =
    let g : days_before leap m ≡ days_before (leap_day (pos (z + 1))) m = ap (λ (f : ℕ). days_before f m) v.leap_day_lem in
    record {
      date = placed_date day y 730700000 n z m (n - s - b + 1) i (years j) (record {
        year = w;
        month = rw (v.leap_day_lem, v.start) at h;
        day = omega (arith, v.start, g, h.begun);
      });
      weekday = sym (weekday_is i);
      day_of_year = rw (leap_is y 730700000 (z + 1) (years j)) (omega (arith, g, h.begun));
    }

-- ## The day of a date

pub starts_to : (z : ℕ) → starts z ≤ 366 * z
unfolding starts
starts_to z = omega arith

module _ {y : ℤ} {z s leap m b next : ℕ} (i : Is y 292279999999 z) (v : YearIs z s leap) (from : 1 ≤ m) (to : m ≤ 12) (e : b ≡ days_before leap m) (f : next ≡ days_before leap (m + 1)) where
  month_long : b + month_days (leap_day y) m ≡ next
  month_long = rw (leap_is y 730700000 (z + 1) (years i), ← v.leap_day_lem) (omega (arith, month_after leap m v.few from to))

  pub not_there : {d : ℕ} → next < b + d → Exists y m d → ⊥
  not_there h x = omega (arith, month_long, x.day_to)

  pub the_day : {day : ℤ} {d : ℕ} → 1 ≤ d → b + d ≤ next → Is day 106753078619162 (s + b + d - 1) → DateOf day y m d
  the_day {d = d} h k j =
      record {
        exists = record { month_from = from; month_to = to; day_from = h; day_to = omega (arith, month_long) };
        number = equal (rw (← v.leap_day_lem, ← v.start, ← e) at (day_is y m d 730700000 z (years i))) (move (146097 * 730700000 + 719163) (s + (b + d)) (omega arith) j);
      }
