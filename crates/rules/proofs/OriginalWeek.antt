-- The steps of the original's ISO week function in numbers of ℕ: w the weekday, k the zero-based day, d the day from 1.
use mathlib.Core.Path.{◌≡◌, refl, sym, ap, ◌∙◌}
use mathlib.Core.Bool.{Bool, true, false, cond, ◌&&◌}
use mathlib.Core.Logic.{◌⊎◌, inl, inr, ⊎_elim}
use Prim.Native.Nat.{ℕ, zero, suc, ◌+◌, ◌-◌, ◌/◌, ◌%◌, ◌<◌, ◌≤◌}
use native.Mathlib.Decide.{dec_lt}
use native.Mathlib.Omega.{arith}
use borrow.Author.Tests.{lt-ltb, le-ltb, le-leb, lt-leb}
use lib.Dec.{T, ltb, leb, ltb→lt, nltb→le, leb→le}
use lib.IntN.{ℤ, pos, negsuc, neg_ℤ, ◌+ℤ◌, ◌-ℤ◌}
use lib.Signed.{lt_z, le_z, quot_z, rem_z}
use Rattle.rules.specs.Decimal.{floor_mod}
use Rattle.rules.specs.Calendar.{is_leap, days_in}
use Rattle.rules.specs.Week.{since_monday, YearAndWeek, start_of_first_week, in_last_week, current_or_next, iso8601_year_and_week_number}
use Rattle.rules.proofs.EventLaws.{split_on}
use Rattle.rules.proofs.FloorLaws.{sub_le, sub_cases, sub_add, sub_sub, lt_sub, le_sub, mod7_sub}
use Rattle.rules.proofs.YearLaws.{days_from, days_to, days_are, last_is}

-- ## Week one

-- `first` is the day on which it starts, plus 7: from 4 to 10
abbrev pub StartsPast : ℕ → ℕ → ℕ → Type 0
StartsPast w k first = start_of_first_week (pos w) (pos k) ≡ pos first -ℤ pos 7

abbrev pub week_one : ℕ → ℕ → ℕ
week_one w k = (k + 11 - w) % 7 + 4

pub week_one_is : (w k : ℕ) → w ≤ 6 → StartsPast w k (week_one w k)
week_one_is w k small =
    let s = (k + 8 - w) % 7 in
    let r : (k + 1 + 7 - w) % 7 ≡ s = omega arith in
    ap (λ (n : ℕ). cond (ltb 3 n) (pos n -ℤ pos 7) (pos n)) (ap (λ (z : ℤ). floor_mod z 7) (sub_add k w 1) ∙ mod7_sub (k + 1) w (omega arith) ∙ r)
    ∙ split_on (λ (z : ℤ). z ≡ pos (week_one w k) -ℤ pos 7) (ltb 3 s)
    (λ t. let h = ltb→lt 3 s t in let e : s ≡ week_one w k = omega arith in ap (λ (n : ℕ). pos n -ℤ pos 7) e)
    (λ t. let h = nltb→le 3 s t in let e : s ≡ week_one w k - 7 = omega arith in ap pos e ∙ sym (sub_le (week_one w k) 7 (omega arith)))

week_is : (w k first : ℕ) → StartsPast w k first → first ≤ 10 → quot_z (pos k +ℤ pos 7 -ℤ start_of_first_week (pos w) (pos k)) (pos 7) ≡ pos ((k + 14 - first) / 7)
week_is w k first is to =
    let e : k + 7 + 7 - first ≡ k + 14 - first = omega arith in
    ap (λ (z : ℤ). quot_z (pos (k + 7) -ℤ z) (pos 7)) is
    ∙ ap (λ (z : ℤ). quot_z z (pos 7)) (sub_sub (k + 7) first 7 ∙ sub_le (k + 7 + 7) first (omega arith))
    ∙ ap (λ (n : ℕ). pos (n / 7)) e

-- ## The last week

-- the weekday of the last of D days
abbrev pub last_weekday : ℕ → ℕ → ℕ → ℕ
last_weekday w D k = (w + (D - 1) + 7 - k) % 7

abbrev pub in_last : ℕ → ℕ → ℕ → Bool
in_last w D k = leb 1 (last_weekday w D k) && (leb (last_weekday w D k) 3 && leb D (k + last_weekday w D k))

-- up to three days past the year's end. (There the original's remainder may be negative, and then the tests fail on both sides.)
pub in_last_is : (y : ℤ) (w k : ℕ) → w ≤ 6 → k < days_in y + 3 → in_last_week y (pos w) (pos k) ≡ in_last w (days_in y) k
in_last_is y w k small within =
    ap (λ (l : ℤ). tests l (rem_z (pos w +ℤ l -ℤ pos k) (pos 7))) (last_is y)
    ∙ sub_cases (λ (z : ℤ). tests (pos (D - 1)) (rem_z z (pos 7)) ≡ in_last w D k) a k up past
  where
    D : ℕ
    D = days_in y

    a : ℕ
    a = w + (D - 1)

    last : ℕ
    last = last_weekday w D k

    tests : ℤ → ℤ → Bool
    tests l z = le_z (pos 1) z && (le_z z (pos 3) && le_z (l -ℤ (z -ℤ pos 1)) (pos k))

    up : k ≤ a → tests (pos (D - 1)) (rem_z (pos (a - k)) (pos 7)) ≡ in_last w D k
    up h =
        let e : (a - k) % 7 ≡ last = omega arith in
        let whole : D - 1 + 1 ≡ D = omega (arith, days_from y) in
        ap (λ (n : ℕ). tests (pos (D - 1)) (pos n)) e
        ∙ ap (λ (b : Bool). leb 1 last && (leb last 3 && b))
        (ap (λ (z : ℤ). le_z z (pos k)) (sub_sub (D - 1) last 1) ∙ le_sub (D - 1 + 1) last k ∙ ap (λ (n : ℕ). leb n (k + last)) whole)

    past : a < k → tests (pos (D - 1)) (rem_z (negsuc (k - suc a)) (pos 7)) ≡ in_last w D k
    past h =
        let e : suc (k - suc a) % 7 ≡ suc (k - suc a) = omega (arith, days_from y) in
        let from : 1 ≤ last = omega (arith, days_from y) in
        let over : 3 < last = omega (arith, days_from y) in
        ap (λ (n : ℕ). tests (pos (D - 1)) (neg_ℤ (pos n))) e ∙ sym (rw (le-leb 1 last from, lt-leb last 3 over) refl)

-- ## The function

abbrev pub answer : ℤ → ℕ → YearAndWeek
answer y n = record { year = y; week = pos n }

pub current_is : (y : ℤ) (w k first : ℕ) → StartsPast w k first → first ≤ 10
    → current_or_next y (pos w) (pos k) ≡ cond (leb 52 ((k + 14 - first) / 7) && in_last_week y (pos w) (pos k)) (answer (y +ℤ pos 1) 1) (answer y ((k + 14 - first) / 7))
current_is y w k first is to =
    ap (λ (z : ℤ). cond (le_z (pos 52) z && in_last_week y (pos w) (pos k)) (answer (y +ℤ pos 1) 1) (record { year = y; week = z })) (week_is w k first is to)

module _ (y : ℤ) (w d first : ℕ) (from : 1 ≤ d) (is : StartsPast w (d - 1) first) where
  restart_is : (restarts : ℕ) → iso8601_year_and_week_number (suc restarts) y (pos w) (pos d)
      ≡ cond (ltb (d - 1 + 7) first) (iso8601_year_and_week_number restarts (y -ℤ pos 1) (pos w) (pos (days_in (y -ℤ pos 1) + d))) (current_or_next y (pos w) (pos (d - 1)))
  unfolding iso8601_year_and_week_number
  restart_is n =
      let before = y -ℤ pos 1 in
      let e : days_in before + (d - 1) + 1 ≡ days_in before + d = omega arith in
      ap (λ (z : ℤ). cond (lt_z z (start_of_first_week (pos w) z)) (again n (cond (is_leap before) (pos 366) (pos 365) +ℤ z +ℤ pos 1)) (current_or_next y (pos w) z)) (sub_le d 1 from)
      ∙ ap (λ (b : Bool). cond b (again n (cond (is_leap before) (pos 366) (pos 365) +ℤ pos (d - 1) +ℤ pos 1)) current) (ap (lt_z (pos (d - 1))) is ∙ lt_sub (d - 1) first 7)
      ∙ ap (λ (z : ℤ). cond (ltb (d - 1 + 7) first) (again n z) current) (ap (λ (z : ℤ). z +ℤ pos (d - 1) +ℤ pos 1) (days_are before) ∙ ap pos e)
    where
      again : ℕ → ℤ → YearAndWeek
      again n z = iso8601_year_and_week_number n (y -ℤ pos 1) (pos w) z

      current : YearAndWeek
      current = current_or_next y (pos w) (pos (d - 1))

  pub original_before : (restarts : ℕ) → d - 1 + 7 < first
      → iso8601_year_and_week_number (suc restarts) y (pos w) (pos d) ≡ iso8601_year_and_week_number restarts (y -ℤ pos 1) (pos w) (pos (days_in (y -ℤ pos 1) + d))
  original_before n h = restart_is n ∙ rw (lt-ltb (d - 1 + 7) first h)

  pub original_begun : (restarts : ℕ) → first ≤ d - 1 + 7 → iso8601_year_and_week_number restarts y (pos w) (pos d) ≡ current_or_next y (pos w) (pos (d - 1))
  unfolding iso8601_year_and_week_number
  original_begun zero h = ap (current_or_next y (pos w)) (sub_le d 1 from)
  original_begun (suc n) h = restart_is n ∙ rw (le-ltb (d - 1 + 7) first h)

-- ## By the Thursday

-- the days since Monday: the weekday less 1, and 6 for Sunday
abbrev Since : ℕ → ℕ → Type 0
Since w m = ((w ≡ 0) × (m ≡ 6)) ⊎ (w ≡ m + 1)

since : (w : ℕ) → w ≤ 6 → Since w (since_monday w)
since w h = elim (dec_lt 0 w) [ yes k ↦ inr (omega arith) | no k ↦ inl (omega arith, omega arith) ]

week_same : (w m k : ℕ) → Since w m → w ≤ 6 → m ≤ k + 3 → (k + 14 - week_one w k) / 7 ≡ (k + 3 - m) / 7 + 1
week_same w m k s a h = ⊎_elim (λ e. omega arith) (λ e. omega arith) s

pub begun : (w k : ℕ) → w ≤ 6 → since_monday w ≤ k + 3 → week_one w k ≤ k + 7
begun w k a h = ⊎_elim (λ e. omega arith) (λ e. omega arith) (since w a)

pub not_begun : (w k : ℕ) → w ≤ 6 → k + 3 < since_monday w → k + 7 < week_one w k
not_begun w k a h = ⊎_elim (λ e. omega arith) (λ e. omega arith) (since w a)

and_false : (a b : Bool) → (T a → b ≡ false) → (a && b) ≡ false
and_false true b f = f tt
and_false false b f = refl

-- the original's tests of the last week say that the Thursday is past the year's last day and the Monday is not
module _ (w m k D : ℕ) (s : Since w m) (small : w ≤ 6) (from : 365 ≤ D) (to : D ≤ 366) (within : k < D + 3) where
  abbrev last : ℕ
  last = last_weekday w D k

  next_tests : D ≤ k + 3 - m → k + 1 ≤ D + m → (1 ≤ last) × (last ≤ 3) × (D ≤ k + last)
  next_tests h l = ⊎_elim (λ e. omega arith) (λ e. omega arith) s

  tests_next : 1 ≤ last → last ≤ 3 → D ≤ k + last → (D ≤ k + 3 - m) × (k + 1 ≤ D + m)
  tests_next h l n = ⊎_elim (λ e. omega arith) (λ e. omega arith) s

  in_last_lem : D ≤ k + 3 - m → k + 1 ≤ D + m → in_last w D k ≡ true
  in_last_lem h l = let t = next_tests h l in rw (le-leb 1 last t.0, le-leb last 3 t.1, le-leb D (k + last) t.2)

  not_in_last : (D ≤ k + 3 - m → k + 1 ≤ D + m → ⊥) → in_last w D k ≡ false
  not_in_last f =
      and_false (leb 1 last) (leb last 3 && leb D (k + last)) (λ t. and_false (leb last 3) (leb D (k + last)) (λ u. lt-leb D (k + last) (short t u)))
    where
      short : T (leb 1 last) → T (leb last 3) → k + last < D
      short t u =
          elim (dec_lt (k + last) D) [
            | yes h ↦ h
            | no h ↦ let n = tests_next (leb→le 1 last t) (leb→le last 3 u) (omega arith) in absurd (f n.0 n.1)
          ]

-- the two answers of the original for a day from week one on
module _ (y : ℤ) (w k : ℕ) (small : w ≤ 6) (within : k < days_in y + 3) where
  abbrev week : ℕ
  week = (k + 14 - week_one w k) / 7

  week_thursday : since_monday w ≤ k + 3 → week ≡ (k + 3 - since_monday w) / 7 + 1
  week_thursday h = week_same w (since_monday w) k (since w small) small h

  current_cases : (b : Bool) → in_last w (days_in y) k ≡ b → current_or_next y (pos w) (pos k) ≡ cond (leb 52 week && b) (answer (y +ℤ pos 1) 1) (answer y week)
  current_cases b e =
      current_is y w k (week_one w k) (week_one_is w k small) (omega arith)
      ∙ ap (λ (b : Bool). cond (leb 52 week && b) (answer (y +ℤ pos 1) 1) (answer y week)) (in_last_is y w k small within ∙ e)

  pub current_next : days_in y ≤ k + 3 - since_monday w → k + 1 ≤ days_in y + since_monday w → current_or_next y (pos w) (pos k) ≡ answer (y +ℤ pos 1) 1
  current_next h l =
      let n : 52 ≤ week = omega (arith, days_from y, week_thursday (omega (arith, days_from y))) in
      current_cases true (in_last_lem w (since_monday w) k (days_in y) (since w small) small (days_from y) (days_to y) within h l) ∙ rw (le-leb 52 week n)

  pub current_stay : since_monday w ≤ k + 3 → (days_in y ≤ k + 3 - since_monday w → k + 1 ≤ days_in y + since_monday w → ⊥)
      → current_or_next y (pos w) (pos k) ≡ answer y ((k + 3 - since_monday w) / 7 + 1)
  current_stay h f =
      current_cases false (not_in_last w (since_monday w) k (days_in y) (since w small) small (days_from y) (days_to y) within f)
      ∙ ap (λ (b : Bool). cond b (answer (y +ℤ pos 1) 1) (answer y week)) (and_false (leb 52 week) false (λ t. refl))
      ∙ ap (answer y) (week_thursday h)
