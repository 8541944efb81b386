-- The laws of places: what a number stands for, and that no two stand for the same.
use mathlib.Core.Path.{◌≡◌, refl, sym, ap, ◌∙◌}
use mathlib.Core.Bool.{Bool, true, false}
use Prim.Native.Nat.{ℕ, ◌+◌, ◌-◌, ◌*◌, ◌/◌, ◌%◌, ◌≤◌, ◌<◌}
use native.Mathlib.Omega.{arith}
use borrow.Author.Tests.{le-leb, lt-leb, leb-true, leb-false, ltb-true, ltb-false}
use lib.Dec.{leb, ltb, leb→le, nleb→lt}
use Rattle.rules.specs.Event.{Count, at, no, reach_of}
use Rattle.rules.proofs.EventLaws.{split_on}
use Rattle.text.specs.Ran.{count_at}

pub count_at_lem : (n : ℕ) → n ≤ 65536 → count_at n ≡ at n
unfolding count_at
count_at_lem n h = rw (le-leb n 65536 h)

pub count_no : (n : ℕ) → 65536 < n → count_at n ≡ no (n / 131072) (n % 131072)
unfolding count_at
count_no n h = rw (lt-leb n 65536 h)

-- the place of a refusal
pub count_refused : (number reach : ℕ) → 1 ≤ number → reach ≤ 65536 → count_at (number * 131072 + reach) ≡ no number reach
count_refused number reach h g =
    let n = number * 131072 + reach in
    let q : n / 131072 ≡ number = omega arith in
    let r : n % 131072 ≡ reach = omega arith in
    count_no n (omega arith) ∙ cc

-- by the two kinds of places
pub by_place : (P : Count → Type 0) (n : ℕ) → (n ≤ 65536 → P (at n)) → (65536 < n → P (no (n / 131072) (n % 131072))) → P (count_at n)
unfolding count_at
by_place P n f g = split_on P (leb n 65536) (λ t. f (leb→le _ _ t)) (λ t. g (nleb→lt _ _ t))

pub same_place : {m n : ℕ} → count_at m ≡ count_at n → m ≡ n
same_place {m} {n} =
    by_place (λ c. c ≡ count_at n → m ≡ n) m
    (λ h. by_place (λ c. at m ≡ c → m ≡ n) n (λ k e. cc) (λ k e. let z : ◌≡◌ {A = ℕ} 0 1 = cc in absurd (omega arith)))
    (λ h. by_place (λ c. no (m / 131072) (m % 131072) ≡ c → m ≡ n) n
    (λ k e. let z : ◌≡◌ {A = ℕ} 0 1 = cc in absurd (omega arith))
    (λ k e. let q : m / 131072 ≡ n / 131072 = cc in let r : m % 131072 ≡ n % 131072 = cc in omega arith))

-- a test of a sum that is made by a difference
pub leb_sub : (n k m : ℕ) → n ≤ m → leb k (m - n) ≡ leb (n + k) m
leb_sub n k m h = by (leb k (m - n)) refl
  where
    by : (b : Bool) → leb k (m - n) ≡ b → b ≡ leb (n + k) m
    by true e = sym (le-leb (n + k) m (omega (arith, leb-true k (m - n) e)))
    by false e = sym (lt-leb (n + k) m (omega (arith, leb-false k (m - n) e)))

-- what a test told that came out of a call
pub fits_yes : {b : Bool} (n m : ℕ) → b ≡ leb n m → b ≡ true → n ≤ m
fits_yes n m e t = leb-true n m (sym e ∙ t)

pub fits_no : {b : Bool} (n m : ℕ) → b ≡ leb n m → b ≡ false → m < n
fits_no n m e t = leb-false n m (sym e ∙ t)

pub refused_yes : (n : ℕ) {b : Bool} → b ≡ ltb 65536 n → b ≡ true → 65536 < n
refused_yes n e t = ltb-true 65536 n (sym e ∙ t)

pub refused_no : (n : ℕ) {b : Bool} → b ≡ ltb 65536 n → b ≡ false → n ≤ 65536
refused_no n e t = ltb-false 65536 n (sym e ∙ t)

-- ## How far the text came

pub reach_at : (n : ℕ) → n ≤ 65536 → reach_of (count_at n) ≡ n
unfolding reach_of
reach_at n h = ap reach_of (count_at_lem n h)

pub reach_no : (r : ℕ) {number reach : ℕ} → count_at r ≡ no number reach → reach_of (count_at r) ≡ reach
unfolding reach_of
reach_no r e = ap reach_of e

-- no further than where a refused place stands
pub reach_past : (n : ℕ) → 65536 < n → reach_of (count_at n) - n ≡ 0
reach_past n h = let e = reach_no n (count_no n h) in omega arith
