-- What each way through the inner functions answers, over plain numbers: w the weekday, k the zero-based day, d the day from 1.
use mathlib.Core.Path.{◌≡◌, refl, sym, ap, ◌∙◌}
use mathlib.Core.Bool.{true, false}
use Prim.Native.Nat.{ℕ, suc, ◌+◌, ◌-◌, ◌/◌, ◌<◌, ◌≤◌}
use native.Mathlib.Omega.{arith}
use borrow.Author.Tests.{le-leb, lt-leb}
use lib.Dec.{leb}
use lib.IntN.{ℤ, pos, ◌+ℤ◌, ◌-ℤ◌}
use Rattle.rules.specs.Calendar.{days_in}
use Rattle.rules.specs.Week.{in_last_week, current_or_next, iso8601_year_and_week_number}
use Rattle.rules.proofs.FloorLaws.{leb_same, mag_dec}
use Rattle.rules.proofs.YearLaws.{days_from}
use Rattle.rules.proofs.OriginalWeek.{last_weekday, in_last, in_last_is, answer, current_is, original_before, original_begun}
use Rattle.week.specs.Inner.{InYear, FirstWeek, FromWeekOne, Restarts}

-- ## `in_last_week`, in a year of D days

module _ (y : ℤ) (w k D : ℕ) (e : D ≡ days_in y) (p : InYear y w k) where
  abbrev last : ℕ
  last = last_weekday w D k

  tests_are : in_last w D k ≡ in_last_week y (pos w) (pos k)
  tests_are = ap (λ (n : ℕ). in_last w n k) e ∙ sym (in_last_is y w k p.small p.within)

  pub by_last_monday : (monday : ℕ) → monday + last ≡ D → 1 ≤ last → leb last 3 ≡ true → leb monday k ≡ in_last_week y (pos w) (pos k)
  by_last_monday monday m h t =
      leb_same monday k D (k + last) (λ n. omega arith) (λ n. omega arith)
      ∙ sym (rw (le-leb 1 last h, t) refl)
      ∙ tests_are

  pub on_sunday : last < 1 → false ≡ in_last_week y (pos w) (pos k)
  on_sunday h = sym (rw (lt-leb 1 last h) refl) ∙ tests_are

  pub from_thursday : 1 ≤ last → leb last 3 ≡ false → false ≡ in_last_week y (pos w) (pos k)
  from_thursday h t = sym (rw (le-leb 1 last h, t) refl) ∙ tests_are

-- ## `current_or_next`

module _ (y : ℤ) (w k first : ℕ) (p : FromWeekOne y w k first) where
  abbrev week : ℕ
  week = (k + 14 - first) / 7

  pub next_year : 52 ≤ week → in_last_week y (pos w) (pos k) ≡ true → answer (y +ℤ pos 1) 1 ≡ current_or_next y (pos w) (pos k)
  next_year h t = sym (current_is y w k first p.week.is p.week.to ∙ rw (le-leb 52 week h, t))

  pub week_52 : 52 ≤ week → in_last_week y (pos w) (pos k) ≡ false → answer y week ≡ current_or_next y (pos w) (pos k)
  week_52 h t = sym (current_is y w k first p.week.is p.week.to ∙ rw (le-leb 52 week h, t))

  pub below_52 : week < 52 → answer y week ≡ current_or_next y (pos w) (pos k)
  below_52 h = sym (current_is y w k first p.week.is p.week.to ∙ rw (lt-leb 52 week h))

-- ## `year_and_week_number`

module _ (y : ℤ) (w d restarts first : ℕ) (p : Restarts y w d restarts) (q : FirstWeek w (d - 1) first) where
  day_from : 1 ≤ d
  day_from = omega (arith, p.from, p.few)

  -- before week one
  module _ (h : d - 1 + 7 < first) where
    pub restarts_from : 1 ≤ restarts
    restarts_from = omega (arith, p.from, q.to)

    pub restarts_less : Restarts (y -ℤ pos 1) w (days_in (y -ℤ pos 1) + (d - 1) + 1) (restarts - 1)
    restarts_less =
        record {
          small = p.small;
          from = omega (arith, days_from (y -ℤ pos 1));
          to = omega (arith, q.to);
          few = omega (arith, p.few);
          near = omega (arith, p.near, mag_dec y, restarts_from);
        }

    pub restarted : iso8601_year_and_week_number (restarts - 1) (y -ℤ pos 1) (pos w) (pos (days_in (y -ℤ pos 1) + (d - 1) + 1)) ≡ iso8601_year_and_week_number restarts y (pos w) (pos d)
    restarted =
        let n : suc (restarts - 1) ≡ restarts = omega (arith, restarts_from) in
        let e : days_in (y -ℤ pos 1) + (d - 1) + 1 ≡ days_in (y -ℤ pos 1) + d = omega (arith, day_from) in
        ap (λ (b : ℕ). iso8601_year_and_week_number (restarts - 1) (y -ℤ pos 1) (pos w) (pos b)) e
        ∙ sym (original_before y w d first day_from q.is (restarts - 1) h)
        ∙ ap (λ (b : ℕ). iso8601_year_and_week_number b y (pos w) (pos d)) n

  pub week_one_lem : FromWeekOne y w (d - 1) first
  week_one_lem = record { day = record { small = p.small; within = omega (arith, p.to) }; week = q; near = omega (arith, p.near) }

  pub begun : first ≤ d - 1 + 7 → current_or_next y (pos w) (pos (d - 1)) ≡ iso8601_year_and_week_number restarts y (pos w) (pos d)
  begun h = sym (original_begun y w d first day_from q.is restarts h)
