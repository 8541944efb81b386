-- Integers as differences of natural numbers: every sum, product, quotient and remainder of ℤ becomes one of ℕ.
use mathlib.Core.Path.{◌≡◌, refl, sym, ap, ◌∙◌}
use mathlib.Core.Bool.{true, false}
use Prim.Native.Nat.{ℕ, zero, suc, ◌+◌, ◌-◌, ◌*◌, ◌/◌, ◌%◌, ◌<◌, ◌≤◌}
use native.Mathlib.Nat.{mul_comm, mul-add, add-mul, suc-mul, mod-lt, mod-eq_of_lt, div-eq_of_lt, div-lt_iff_lt-mul, div-add-mod', mul-add-div, add-mul-div_left, add-mul-mod_self_left, mul-add-mod_self_left}
use native.Mathlib.Decide.{dec_lt}
use native.Mathlib.Omega.{arith}
use lib.IntN.{ℤ, pos, negsuc, neg_ℤ, nat_abs, sub_ℕ, ◌+ℤ◌, ◌-ℤ◌, ◌*ℤ◌}
use lib.Signed.{mag, lt_z}
use borrow.Author.Tests.{ltb-true, ltb-false, lt-ltb, le-ltb}
use Rattle.rules.specs.Decimal.{floor_div, floor_mod}

-- z is n − k
abbrev Diff : ℤ → ℕ → ℕ → Type 0
Diff (pos a) k n = a + k ≡ n
Diff (negsuc a) k n = n + suc a ≡ k

pub record Is (z : ℤ) (k n : ℕ) : Type 0 where
  pub diff : Diff z k n

pub is_pos : (a : ℕ) → Is (pos a) 0 a
is_pos a = record { diff = omega arith }

-- the same number, by another shift
pub move : {z : ℤ} {k n : ℕ} (k' n' : ℕ) → n + k' ≡ n' + k → Is z k n → Is z k' n'
move {z = pos a} k' n' e h = record { diff = omega arith }
move {z = negsuc a} k' n' e h = record { diff = omega arith }

-- and only the same
pub same : {z : ℤ} {k n k' n' : ℕ} → Is z k n → Is z k' n' → n + k' ≡ n' + k
same {z = pos a} h h' = omega arith
same {z = negsuc a} h h' = omega arith

pub equal : {z z' : ℤ} {k n : ℕ} → Is z k n → Is z' k n → z ≡ z'
equal {z = pos a} {z' = pos b} h h' = let e : a ≡ b = omega arith in ap pos e
equal {z = pos a} {z' = negsuc b} h h' = absurd (omega arith)
equal {z = negsuc a} {z' = pos b} h h' = absurd (omega arith)
equal {z = negsuc a} {z' = negsuc b} h h' = let e : a ≡ b = omega arith in ap negsuc e

pub is_sub : (a b : ℕ) → Is (sub_ℕ a b) b a
is_sub a b = elim (dec_lt a b) [ yes h ↦ below h | no h ↦ above (omega arith) ]
  where
    below : a < b → Is (sub_ℕ a b) b a
    below h = rw (lt-ltb a b h) (record { diff = omega arith })

    above : b ≤ a → Is (sub_ℕ a b) b a
    above h = rw (le-ltb a b h) (record { diff = omega arith })

pub is_add : {y z : ℤ} {j m k n : ℕ} → Is y j m → Is z k n → Is (y +ℤ z) (j + k) (m + n)
is_add {y = pos a} {z = pos b} g h = record { diff = omega arith }
is_add {y = pos a} {z = negsuc b} {j = j} {m = m} {k = k} {n = n} g h = move (j + k) (m + n) (omega arith) (is_sub a (suc b))
is_add {y = negsuc a} {z = pos b} {j = j} {m = m} {k = k} {n = n} g h = move (j + k) (m + n) (omega arith) (is_sub b (suc a))
is_add {y = negsuc a} {z = negsuc b} g h = record { diff = omega arith }

pub is_neg : {z : ℤ} {k n : ℕ} → Is z k n → Is (neg_ℤ z) n k
is_neg {z = pos zero} h = record { diff = omega arith }
is_neg {z = pos (suc a)} h = record { diff = omega arith }
is_neg {z = negsuc a} h = record { diff = omega arith }

pub is_minus : {y z : ℤ} {j m k n : ℕ} → Is y j m → Is z k n → Is (y -ℤ z) (j + n) (m + k)
is_minus g h = is_add g (is_neg h)

pub is_times : {z : ℤ} {k n : ℕ} (c : ℕ) → Is z k n → Is (z *ℤ pos c) (k * c) (n * c)
is_times {z = pos a} {k = k} c h = record { diff = sym (add-mul a k c) ∙ ap (λ (x : ℕ). x * c) h.diff }
is_times {z = negsuc a} {k = k} {n = n} c h =
    let e : suc a + n ≡ k = omega arith in
    is_neg {z = pos (suc a * c)} (record { diff = sym (add-mul (suc a) n c) ∙ ap (λ (x : ℕ). x * c) e })

-- every integer, by a shift that is large enough
pub is_some : (z : ℤ) (k : ℕ) → nat_abs z ≤ k → (n : ℕ) × Is z k n
is_some (pos a) k h = (a + k, record { diff = refl })
is_some (negsuc a) k h = (k - suc a, record { diff = omega arith })

-- the order
pub less : {y z : ℤ} {k m n : ℕ} → Is y k m → Is z k n → lt_z y z ≡ true → m < n
less {y = pos a} {z = pos b} i j t = omega (arith, ltb-true a b t)
less {y = pos a} {z = negsuc b} i j t = let e : ◌≡◌ {A = ℕ} 0 1 = cc in absurd (omega arith)
less {y = negsuc a} {z = pos b} i j t = omega arith
less {y = negsuc a} {z = negsuc b} i j t = omega (arith, ltb-true b a t)

pub not_less : {y z : ℤ} {k m n : ℕ} → Is y k m → Is z k n → lt_z y z ≡ false → n ≤ m
not_less {y = pos a} {z = pos b} i j t = omega (arith, ltb-false a b t)
not_less {y = pos a} {z = negsuc b} i j t = omega arith
not_less {y = negsuc a} {z = pos b} i j t = let e : ◌≡◌ {A = ℕ} 0 1 = cc in absurd (omega arith)
not_less {y = negsuc a} {z = negsuc b} i j t = omega (arith, ltb-false b a t)

-- a number between −b and b − 1
pub shift_within : {z : ℤ} {k n : ℕ} (b : ℕ) → Is z k n → n < k + b → k ≤ n + b → mag z < b
shift_within {z = pos a} b i h g = omega arith
shift_within {z = negsuc a} b i h g = omega arith

pub within_shift : (z : ℤ) {b : ℕ} → mag z < b → (n : ℕ) × Is z b n × (n < b + b)
within_shift (pos a) {b} h = (a + b, record { diff = refl }, omega arith)
within_shift (negsuc a) {b} h = (b - suc a, record { diff = omega arith }, omega arith)

-- quotients and remainders by m, of a number that is shifted by a multiple of m
module _ (m : ℕ) (h : 0 < m) where
  negative : (k a n : ℕ) → n + suc a ≡ m * k → (n / m + suc (a / m) ≡ k) × (n % m ≡ m - suc (a % m))
  negative k a n e =
      let q = a / m in
      let r = m - suc (a % m) in
      let j = k - suc q in
      let below : r < m = omega (arith, mod-lt a h) in
      let first : q < k = (div-lt_iff_lt-mul h).1 (omega (arith, mul_comm m k)) in
      let second : k ≡ suc q + j = omega arith in
      let split : m * k ≡ q * m + m + m * j = ap (λ (i : ℕ). m * i) second ∙ mul-add m (suc q) j ∙ ap (λ (i : ℕ). i + m * j) (mul_comm m (suc q) ∙ suc-mul q m) in
      let whole : n ≡ m * j + r = omega (arith, div-add-mod' a m, mod-lt a h) in
      let quotient : n / m ≡ j = ap (λ (i : ℕ). i / m) whole ∙ mul-add-div h j r ∙ omega (arith, div-eq_of_lt below) in
      (omega arith, ap (λ (i : ℕ). i % m) whole ∙ mul-add-mod_self_left m j r ∙ mod-eq_of_lt below)

  pub quotient : {z : ℤ} {n : ℕ} (k : ℕ) → Is z (m * k) n → Is (floor_div z m) k (n / m)
  quotient {z = pos a} k i = record { diff = sym (ap (λ (n : ℕ). n / m) (sym i.diff) ∙ add-mul-div_left a k h) }
  quotient {z = negsuc a} {n} k i = record { diff = (negative k a n i.diff).0 }

  pub remainder : {z : ℤ} {n : ℕ} (k : ℕ) → Is z (m * k) n → floor_mod z m ≡ n % m
  remainder {z = pos a} k i = sym (ap (λ (n : ℕ). n % m) (sym i.diff) ∙ add-mul-mod_self_left a m k)
  remainder {z = negsuc a} {n} k i = sym (negative k a n i.diff).1
