-- The formula of the days before a month, by a computed test.
use mathlib.Core.Path.{◌≡◌, refl}
use mathlib.Core.Bool.{true, cond}
use mathlib.Core.List.{sum}
use Prim.Native.Nat.{ℕ, zero, suc, ◌+◌, ◌-◌, ◌*◌, ◌/◌, ◌<◌, ◌≤◌}
use native.Mathlib.Omega.{arith}
use lib.Dec.{eqb, ltb}
use borrow.Author.Tests.{lt-ltb, le-ltb, eqb-true}
use Rattle.rules.specs.Calendar.{months, days_before}
use Rattle.rules.proofs.CalendarLaws.{every, every_at}

unfoldable start_at : ℕ → ℕ → ℕ
start_at leap m = cond (ltb m 3) (31 * (m - 1)) ((153 * m - 457) / 5 + 59 + leap)

tested : (leap : ℕ) → leap ≤ 1 → every 13 (λ (i : ℕ). eqb (start_at leap (i + 1)) (days_before leap (i + 1))) ≡ true
unfolding start_at days_before months sum
tested zero h = refl
tested (suc zero) h = refl
tested (suc (suc leap)) h = absurd (omega arith)

module _ (leap m : ℕ) (h : leap ≤ 1) (from : 1 ≤ m) (to : m ≤ 13) where
  start_is : start_at leap m ≡ days_before leap m
  start_is =
      let e : m - 1 + 1 ≡ m = omega arith in
      eqb-true _ _ (rw e at (every_at (λ (i : ℕ). eqb (start_at leap (i + 1)) (days_before leap (i + 1))) 13 (tested leap h) (m - 1) (omega arith)))

  pub before_march : m < 3 → 31 * (m - 1) ≡ days_before leap m
  unfolding start_at
  before_march l = rw (lt-ltb m 3 l) at start_is

  pub from_march : 3 ≤ m → (153 * m - 457) / 5 + 59 + leap ≡ days_before leap m
  unfolding start_at
  from_march l = rw (le-ltb m 3 l) at start_is
