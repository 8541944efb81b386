-- Powers of ten, and the number of digits from the last one that a number has reached.
use Rattle.std.specs.Prelude.{◌≡◌, ℕ, suc, ◌+◌, ◌*◌, ◌^◌, ◌<◌, ◌≤◌}
use native.Mathlib.Omega.{arith}
use native.Mathlib.Nat.{pow-suc, pow-le-pow_right}
use lib.Dec.{lit<}
use Rattle.rules.specs.Decimal.{digit_count}
use Rattle.rules.proofs.DecimalLaws.{count_is, count_small}

pub power_fits : (k : ℕ) → k ≤ 9 → 10 ^ k < 2 ^ 32
power_fits k h = let p : 10 ^ k ≤ 10 ^ 9 = pow-le-pow_right (lit< tt) h in omega arith

pub zero_counted : (n : ℕ) → n ≡ 0 → 1 ≡ digit_count n
zero_counted n h = omega (arith, count_small n (omega arith))

pub counted : (n k : ℕ) → 10 ^ k ≤ n → n < 10 * 10 ^ k → k + 1 ≡ digit_count n
counted n k l u = let q : n < 10 ^ suc k = omega (arith, pow-suc 10 k) in omega (arith, count_is k n l q)
