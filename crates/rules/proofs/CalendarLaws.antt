-- The definitions are the calendar: day 0 is 1970-01-01, a Thursday, and the day after each day is the next date's.
use mathlib.Core.Path.{◌≡◌, refl, sym, ap, ◌∙◌, subst}
use mathlib.Core.Bool.{Bool, true, cond, ◌&&◌}
use mathlib.Core.List.{sum}
use Prim.Native.Nat.{ℕ, zero, suc, ◌+◌, ◌-◌, ◌*◌, ◌/◌, ◌%◌, ◌<◌, ◌≤◌}
use native.Mathlib.Nat.{div-add-mod, mod-lt, mod-eq_of_lt, div-eq_of_lt, mul-add-div, mul-add-mod_self_left, mod_self, div_self}
use native.Mathlib.Decide.{dec_lt}
use native.Mathlib.Omega.{arith}
use lib.Dec.{eqb, leb, lit≤, lit<}
use lib.IntN.{ℤ, pos, negsuc, nat_abs, ◌+ℤ◌, ◌-ℤ◌, +ℤ_idr}
use borrow.Author.Tests.{eq-eqb, ne_eqb, eqb-true, leb-true}
use Rattle.rules.specs.Decimal.{floor_mod}
use Rattle.rules.specs.Calendar.{is_leap, leap_day, days_in, months, month_days, days_before, year_day, year_start, day_number, weekday_of, DateOf}
use Rattle.rules.proofs.RecordLaws.{both}
use Rattle.rules.proofs.Shift.{Is, move, equal, is_pos, is_add, is_minus, is_times, is_some, quotient, remainder}
use Rattle.rules.proofs.YearLaws.{leap_day_to}

pub epoch : (day_number (pos 1970) 1 1 ≡ pos 0) × (weekday_of (pos 0) ≡ 4)
unfolding day_number year_start year_day days_before leap_day is_leap months weekday_of sum
epoch = (refl, refl)

-- the first and the last day of an i32's years, two leap days and a Monday
pub known_days : (day_number (negsuc 2147483647) 1 1 ≡ negsuc 784353015832) × (day_number (pos 2147483647) 12 31 ≡ pos 784351576776)
    × (day_number (pos 0) 2 29 ≡ negsuc 719468) × (day_number (pos 2000) 2 29 ≡ pos 11016) × (weekday_of (day_number (pos 2024) 12 30) ≡ 1)
unfolding day_number year_start year_day days_before leap_day is_leap months weekday_of sum
known_days = (refl, refl, refl, refl, refl)

-- ## Years, shifted into ℕ by a number of 400 years

-- the days of z years from a year 1 on
unfoldable pub starts : ℕ → ℕ
starts z = 365 * z + z / 4 - z / 100 + z / 400

-- 1 where m divides n
abbrev one_in : ℕ → ℕ → ℕ
one_in m n = cond (eqb (n % m) 0) 1 0

-- the quotient rises at the multiples
rises : (m z : ℕ) → 0 < m → (z + 1) / m ≡ z / m + one_in m (z + 1)
rises m z h =
    elim (dec_lt (z % m + 1) m) [
      | yes l ↦ let e : (z + 1) % m ≡ z % m + 1 = ap (λ (n : ℕ). n % m) split ∙ mul-add-mod_self_left m (z / m) (z % m + 1) ∙ mod-eq_of_lt l in
          rw (ne_eqb ((z + 1) % m) 0 (λ zero. omega arith)) (quotients ∙ ap (λ (n : ℕ). z / m + n) (div-eq_of_lt l))
      | no l ↦ let f : z % m + 1 ≡ m = omega (arith, mod-lt z h) in
          let e : (z + 1) % m ≡ 0 = ap (λ (n : ℕ). n % m) split ∙ mul-add-mod_self_left m (z / m) (z % m + 1) ∙ ap (λ (n : ℕ). n % m) f ∙ mod_self m in
          rw (eq-eqb ((z + 1) % m) 0 e) (quotients ∙ ap (λ (n : ℕ). z / m + n) (ap (λ (n : ℕ). n / m) f ∙ div_self h))
    ]
  where
    split : z + 1 ≡ m * (z / m) + (z % m + 1)
    split = omega (arith, div-add-mod z m)

    quotients : (z + 1) / m ≡ z / m + (z % m + 1) / m
    quotients = ap (λ (n : ℕ). n / m) split ∙ mul-add-div h (z / m) (z % m + 1)

-- a leap day for each fourth year, not for each hundredth, but for each four hundredth
leap_sum : (n : ℕ) → (leap_day (pos n) + one_in 100 n ≡ one_in 4 n + one_in 400 n) × (one_in 100 n ≤ one_in 4 n)
unfolding leap_day is_leap
leap_sum n =
    elim (dec_lt 0 (n % 400)) [
      | no h ↦ rw (eq-eqb (n % 400) 0 (omega arith), eq-eqb (n % 4) 0 (omega arith), eq-eqb (n % 100) 0 (omega arith)) (refl, lit≤ tt)
      | yes h ↦ elim (dec_lt 0 (n % 4)) [
        | yes k ↦ rw (ne_eqb (n % 400) 0 (λ e. omega arith), ne_eqb (n % 4) 0 (λ e. omega arith), ne_eqb (n % 100) 0 (λ e. omega arith)) (refl, lit≤ tt)
        | no k ↦ elim (dec_lt 0 (n % 100)) [
          | yes l ↦ rw (ne_eqb (n % 400) 0 (λ e. omega arith), eq-eqb (n % 4) 0 (omega arith), ne_eqb (n % 100) 0 (λ e. omega arith)) (refl, lit≤ tt)
          | no l ↦ rw (ne_eqb (n % 400) 0 (λ e. omega arith), eq-eqb (n % 4) 0 (omega arith), eq-eqb (n % 100) 0 (omega arith)) (refl, lit≤ tt)
        ]
      ]
    ]

pub one_year : (z : ℕ) → starts (z + 1) ≡ starts z + (365 + leap_day (pos (z + 1)))
unfolding starts
one_year z =
    let l = leap_sum (z + 1) in
    summed z _ _ _ _ _ _ _ _ _ _ fewer l.1 (rises 4 z (lit< tt)) (rises 100 z (lit< tt)) (rises 400 z (lit< tt)) l.0
  where
    fewer : z / 100 ≤ z / 4
    fewer = omega arith

    summed : (z p q r p' q' r' i j k leap : ℕ) → q ≤ p → j ≤ i → p' ≡ p + i → q' ≡ q + j → r' ≡ r + k → leap + j ≡ i + k → 365 * (z + 1) + p' - q' + r' ≡ 365 * z + p - q + r + (365 + leap)
    summed z p q r p' q' r' i j k leap g h a b c e = omega arith

-- 400 years change no leap year
pub leap_is : (y : ℤ) (k n : ℕ) → Is y (400 * k) n → leap_day y ≡ leap_day (pos n)
unfolding leap_day is_leap
leap_is y k n i =
    simp (remainder 400 (lit< tt) k i, remainder 4 (lit< tt) (100 * k) (move (4 * (100 * k)) n (omega arith) i), remainder 100 (lit< tt) (4 * k) (move (100 * (4 * k)) n (omega arith) i))

pub year_is : (y : ℤ) (k z : ℕ) → Is y (400 * k) (z + 1) → Is (year_start y) (146097 * k) (starts z)
unfolding year_start starts
year_is y k z h =
    let i : Is (y -ℤ pos 1) (400 * k) z = move (400 * k) z (omega arith) (is_minus h (is_pos 1)) in
    let i4 = quotient 4 (lit< tt) (100 * k) (move (4 * (100 * k)) z (omega arith) i) in
    let i100 = quotient 100 (lit< tt) (4 * k) (move (100 * (4 * k)) z (omega arith) i) in
    move (146097 * k) (365 * z + z / 4 - z / 100 + z / 400) (omega arith) (is_add (is_minus (is_add (is_times 365 i) i4) i100) (quotient 400 (lit< tt) k i))

-- a shift that is large enough
pub room : (y : ℤ) (k : ℕ) → nat_abs y < k → (z : ℕ) × Is y (400 * k) (z + 1)
room y k h =
    let v = is_some y (400 * k) (omega arith) in
    let s = above h v.1 in
    (v.0 - 1, move (400 * k) (v.0 - 1 + 1) (omega arith) v.1)
  where
    above : {y : ℤ} {n : ℕ} → nat_abs y < k → Is y (400 * k) n → 1 ≤ n
    above {y = pos a} h i = omega arith
    above {y = negsuc a} h i = omega arith

pub next_year : (y : ℤ) → year_start (y +ℤ pos 1) ≡ year_start y +ℤ pos (days_in y)
unfolding days_in
next_year y =
    let k = nat_abs y + 1 in
    let v = room y k (omega arith) in
    let z = v.0 in
    let i : Is (y +ℤ pos 1) (400 * k) (z + 1 + 1) = move (400 * k) (z + 1 + 1) (omega arith) (is_add v.1 (is_pos 1)) in
    equal (year_is (y +ℤ pos 1) k (z + 1) i)
    (move (146097 * k) (starts (z + 1)) (omega (arith, one_year z, leap_is y k (z + 1) v.1)) (is_add (year_is y k z v.1) (is_pos (days_in y))))

-- ## Months, by computed tests

-- a test that passes at every number below n
abbrev pub every : ℕ → (ℕ → Bool) → Bool
every zero test = true
every (suc n) test = test n && every n test

pub every_at : (test : ℕ → Bool) (n : ℕ) → every n test ≡ true → (k : ℕ) → k < n → test k ≡ true
every_at test zero t k h = absurd (omega arith)
every_at test (suc n) t k h =
    let b = both (test n) (every n test) t in
    elim (dec_lt k n) [ yes l ↦ every_at test n b.1 k l | no l ↦ let e : n ≡ k = omega arith in subst (λ (i : ℕ). test i ≡ true) e b.0 ]

-- a test of every month, in years of both lengths
pub all_months : (test : ℕ → ℕ → Bool) → every 12 (λ (i : ℕ). test 0 (i + 1)) ≡ true → every 12 (λ (i : ℕ). test 1 (i + 1)) ≡ true →
    (leap m : ℕ) → leap ≤ 1 → 1 ≤ m → m ≤ 12 → test leap m ≡ true
all_months test p q leap m h a b =
    let e : m - 1 + 1 ≡ m = omega arith in
    subst (λ (n : ℕ). test leap n ≡ true) e (every_at (λ (i : ℕ). test leap (i + 1)) 12 (either leap h) (m - 1) (omega arith))
  where
    either : (leap : ℕ) → leap ≤ 1 → every 12 (λ (i : ℕ). test leap (i + 1)) ≡ true
    either zero h = p
    either (suc zero) h = q
    either (suc (suc leap)) h = absurd (omega arith)

-- a month has 28 to 31 days, lies in its year, and the next begins after it
module _ (leap m : ℕ) (h : leap ≤ 1) (from : 1 ≤ m) (to : m ≤ 12) where
  pub month_from : 28 ≤ month_days leap m
  unfolding month_days months
  month_from = leb-true _ _ (all_months (λ (leap m : ℕ). leb 28 (month_days leap m)) refl refl leap m h from to)

  pub month_to : month_days leap m ≤ 31
  unfolding month_days months
  month_to = leb-true _ _ (all_months (λ (leap m : ℕ). leb (month_days leap m) 31) refl refl leap m h from to)

  pub month_in : days_before leap m + month_days leap m ≤ 365 + leap
  unfolding days_before month_days months sum
  month_in = leb-true _ _ (all_months (λ (leap m : ℕ). leb (days_before leap m + month_days leap m) (365 + leap)) refl refl leap m h from to)

  pub month_after : days_before leap (m + 1) ≡ days_before leap m + month_days leap m
  unfolding days_before month_days months sum
  month_after = eqb-true _ _ (all_months (λ (leap m : ℕ). eqb (days_before leap (m + 1)) (days_before leap m + month_days leap m)) refl refl leap m h from to)

pub first_day : (y : ℤ) → year_day y 1 1 ≡ 1
unfolding year_day days_before sum
first_day y = refl

pub last_day : (y : ℤ) → year_day y 12 31 ≡ days_in y
unfolding year_day days_in days_before months sum
last_day y = omega arith

-- ## The day after

-- the next day of the month, the first day of the next month, or January 1 of the next year
pub data After : ℤ → ℕ → ℕ → ℤ → ℕ → ℕ → Type 0 where
  in_month : {y : ℤ} {m d : ℕ} → d < month_days (leap_day y) m → After y m d y m (d + 1)
  in_year : {y : ℤ} {m : ℕ} → m < 12 → After y m (month_days (leap_day y) m) y (m + 1) 1
  new_year : {y : ℤ} → After y 12 31 (y +ℤ pos 1) 1 1

-- one day more, in the same year or in another
later : (s t : ℤ) (a b c : ℕ) → t ≡ s +ℤ pos a → a + b ≡ c + 1 → t +ℤ pos b -ℤ pos 719163 ≡ s +ℤ pos c -ℤ pos 719163 +ℤ pos 1
later s t a b c e h =
    let k = nat_abs s in
    let v = is_some s k (omega arith) in
    let n = v.0 + c + 1 in
    rw e
    (equal (move (k + 719163) n (omega arith) (is_minus (is_add (is_add v.1 (is_pos a)) (is_pos b)) (is_pos 719163)))
    (move (k + 719163) n (omega arith) (is_add (is_minus (is_add v.1 (is_pos c)) (is_pos 719163)) (is_pos 1))))

same_year : (y : ℤ) (m d m' d' : ℕ) → year_day y m' d' ≡ year_day y m d + 1 → day_number y m' d' ≡ day_number y m d +ℤ pos 1
unfolding day_number
same_year y m d m' d' e = later (year_start y) (year_start y) 0 (year_day y m' d') (year_day y m d) (sym (+ℤ_idr (year_start y))) (omega arith)

january : (y : ℤ) → day_number (y +ℤ pos 1) 1 1 ≡ day_number y 12 31 +ℤ pos 1
unfolding day_number
january y = later (year_start y) (year_start (y +ℤ pos 1)) (days_in y) (year_day (y +ℤ pos 1) 1 1) (year_day y 12 31) (next_year y) (omega (arith, first_day (y +ℤ pos 1), last_day y))

pub day_after : {n y y' : ℤ} {m d m' d' : ℕ} → DateOf n y m d → After y m d y' m' d' → DateOf (n +ℤ pos 1) y' m' d'
unfolding year_day
day_after {y = y} {m = m} {d = d} w (in_month l) =
    let x = w.exists in
    record {
      exists = record { month_from = x.month_from; month_to = x.month_to; day_from = omega arith; day_to = omega arith };
      number = same_year y m d m (d + 1) (omega arith) ∙ ap (λ (z : ℤ). z +ℤ pos 1) w.number;
    }
day_after {y = y} {m = m} {d = d} w (in_year l) =
    let x = w.exists in
    let h = leap_day_to y in
    record {
      exists = record { month_from = omega arith; month_to = omega arith; day_from = lit≤ tt; day_to = omega (arith, month_from (leap_day y) (m + 1) h (omega arith) (omega arith)) };
      number = same_year y m _ (m + 1) 1 (omega (arith, month_after (leap_day y) m h x.month_from x.month_to)) ∙ ap (λ (z : ℤ). z +ℤ pos 1) w.number;
    }
day_after {y = y} w new_year =
    record {
      exists = record { month_from = lit≤ tt; month_to = lit≤ tt; day_from = lit≤ tt; day_to = omega (arith, month_from (leap_day (y +ℤ pos 1)) 1 (leap_day_to (y +ℤ pos 1)) (lit≤ tt) (lit≤ tt)) };
      number = january y ∙ ap (λ (z : ℤ). z +ℤ pos 1) w.number;
    }

pub weekday_after : (n : ℤ) → weekday_of (n +ℤ pos 1) ≡ (weekday_of n + 1) % 7
unfolding weekday_of
weekday_after n =
    let k = nat_abs n in
    let v = is_some n (7 * k) (omega arith) in
    let x = v.0 in
    let e : floor_mod (n +ℤ pos 1 +ℤ pos 4) 7 ≡ (x + 5) % 7 = remainder 7 (lit< tt) k (move (7 * k) (x + 5) (omega arith) (is_add (is_add v.1 (is_pos 1)) (is_pos 4))) in
    let f : floor_mod (n +ℤ pos 4) 7 ≡ (x + 4) % 7 = remainder 7 (lit< tt) k (move (7 * k) (x + 4) (omega arith) (is_add v.1 (is_pos 4))) in
    omega arith
