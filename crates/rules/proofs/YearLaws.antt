-- The days of a year.
use mathlib.Core.Path.{◌≡◌, refl}
use mathlib.Core.Bool.{Bool, true, false, cond}
use Prim.Native.Nat.{ℕ, ◌+◌, ◌-◌, ◌≤◌}
use native.Mathlib.Omega.{arith}
use lib.Dec.{lit≤}
use lib.IntN.{ℤ, pos}
use Rattle.rules.specs.Calendar.{is_leap, leap_day, days_in}
use Rattle.rules.specs.Week.{last_year_day}

pub leap_day_to : (y : ℤ) → leap_day y ≤ 1
unfolding leap_day
leap_day_to y = one (is_leap y)
  where
    one : (b : Bool) → cond {A = ℕ} b 1 0 ≤ 1
    one true = lit≤ tt
    one false = lit≤ tt

pub days_from : (y : ℤ) → 365 ≤ days_in y
unfolding days_in
days_from y = omega arith

pub days_to : (y : ℤ) → days_in y ≤ 366
unfolding days_in
days_to y = omega (arith, leap_day_to y)

pub days_are : (y : ℤ) → cond (is_leap y) (pos 366) (pos 365) ≡ pos (days_in y)
unfolding days_in leap_day
days_are y = are (is_leap y)
  where
    are : (b : Bool) → cond b (pos 366) (pos 365) ≡ pos (365 + cond b 1 0)
    are true = refl
    are false = refl

pub last_is : (y : ℤ) → last_year_day y ≡ pos (days_in y - 1)
unfolding days_in leap_day
last_is y = is (is_leap y)
  where
    is : (b : Bool) → cond b (pos 365) (pos 364) ≡ pos (365 + cond b 1 0 - 1)
    is true = refl
    is false = refl
