-- Differences of natural numbers in ℤ, by numbers of ℕ alone; and what the floor quotient and remainder mean.
use mathlib.Core.Path.{◌≡◌, sym, ap, ◌∙◌, subst⁻¹}
use Prim.Native.Nat.{ℕ, zero, suc, ◌+◌, ◌-◌, ◌*◌, ◌/◌, ◌%◌, ◌<◌, ◌≤◌}
use native.Mathlib.Nat.{mod-lt, div-add-mod', suc-mul}
use native.Mathlib.Decide.{dec_lt}
use native.Mathlib.Omega.{arith}
use borrow.Author.Tests.{lt-ltb, le-ltb, le-leb, lt-leb}
use lib.Dec.{ltb, leb}
use lib.IntN.{ℤ, pos, negsuc, neg_ℤ, neg_ℤ-neg_ℤ, suc_ℤ, pred_ℤ, ◌+ℤ◌, ◌-ℤ◌, ◌*ℤ◌, +ℤ_assoc, +ℤ_comm, neg_ℤ-+ℤ, +ℤ_one, -ℤ_one}
use lib.Signed.{mag, lt_z, le_z}
use Rattle.rules.specs.Decimal.{floor_div, floor_mod}

-- ## Differences

pub sub_le : (a b : ℕ) → b ≤ a → pos a -ℤ pos b ≡ pos (a - b)
sub_le a zero h = let e : a + 0 ≡ a - zero = omega arith in ap pos e
sub_le a (suc b) h = rw (le-ltb a (suc b) h)

pub sub_lt : (a b : ℕ) → a < b → pos a -ℤ pos b ≡ negsuc (b - suc a)
sub_lt a zero h = absurd (omega arith)
sub_lt a (suc b) h = rw (lt-ltb a (suc b) h)

-- whatever follows of a difference of each sign
pub sub_cases : (P : ℤ → Type 0) (a b : ℕ) → (b ≤ a → P (pos (a - b))) → (a < b → P (negsuc (b - suc a))) → P (pos a -ℤ pos b)
sub_cases P a b f g =
    elim (dec_lt a b) [ yes h ↦ subst⁻¹ P (sub_lt a b h) (g h) | no h ↦ let k : b ≤ a = omega arith in subst⁻¹ P (sub_le a b k) (f k) ]

-- a − b + c is (a + c) − b
pub sub_add : (a b c : ℕ) → pos a -ℤ pos b +ℤ pos c ≡ pos (a + c) -ℤ pos b
sub_add a b c =
    +ℤ_assoc (pos a) (neg_ℤ (pos b)) (pos c)
    ∙ ap (λ (z : ℤ). pos a +ℤ z) (+ℤ_comm (neg_ℤ (pos b)) (pos c))
    ∙ sym (+ℤ_assoc (pos a) (pos c) (neg_ℤ (pos b)))

-- a − (b − c) is (a + c) − b
pub sub_sub : (a b c : ℕ) → pos a -ℤ (pos b -ℤ pos c) ≡ pos (a + c) -ℤ pos b
sub_sub a b c =
    ap (λ (z : ℤ). pos a +ℤ z) (neg_ℤ-+ℤ (pos b) (neg_ℤ (pos c)) ∙ ap (λ (z : ℤ). neg_ℤ (pos b) +ℤ z) (neg_ℤ-neg_ℤ (pos c)))
    ∙ sym (+ℤ_assoc (pos a) (neg_ℤ (pos b)) (pos c))
    ∙ sub_add a b c

-- two tests that hold together
pub leb_same : (a b c d : ℕ) → (a ≤ b → c ≤ d) → (c ≤ d → a ≤ b) → leb a b ≡ leb c d
leb_same a b c d f g =
    elim (dec_lt b a) [
      | yes h ↦ lt-leb a b h ∙ sym (lt-leb c d (elim (dec_lt d c) [ yes k ↦ k | no k ↦ let l = g (omega arith) in absurd (omega arith) ]))
      | no h ↦ let l : a ≤ b = omega arith in le-leb a b l ∙ sym (le-leb c d (f l))
    ]

-- a < b − c and a − b ≤ c, as tests
pub lt_sub : (a b c : ℕ) → lt_z (pos a) (pos b -ℤ pos c) ≡ ltb (a + c) b
lt_sub a b c =
    sub_cases (λ (z : ℤ). lt_z (pos a) z ≡ ltb (a + c) b) b c
    (λ h. leb_same (suc a) (b - c) (suc (a + c)) b (λ k. omega arith) (λ k. omega arith))
    (λ h. sym (le-ltb (a + c) b (omega arith)))

pub le_sub : (a b c : ℕ) → le_z (pos a -ℤ pos b) (pos c) ≡ leb a (c + b)
le_sub a b c =
    sub_cases (λ (z : ℤ). le_z z (pos c) ≡ leb a (c + b)) a b
    (λ h. leb_same (a - b) c a (c + b) (λ k. omega arith) (λ k. omega arith))
    (λ h. sym (le-leb a (c + b) (omega arith)))

pub mod7_sub : (a b : ℕ) → b ≤ a + 7 → floor_mod (pos a -ℤ pos b) 7 ≡ (a + 7 - b) % 7
mod7_sub a b h = sub_cases (λ (z : ℤ). floor_mod z 7 ≡ (a + 7 - b) % 7) a b (λ k. omega arith) (λ k. omega arith)

-- one more and one less is at most one further from 0
mag_suc : (z : ℤ) → mag (suc_ℤ z) ≤ mag z + 1
mag_suc (pos n) = omega arith
mag_suc (negsuc zero) = omega arith
mag_suc (negsuc (suc n)) = omega arith

mag_pred : (z : ℤ) → mag (pred_ℤ z) ≤ mag z + 1
mag_pred (pos zero) = omega arith
mag_pred (pos (suc n)) = omega arith
mag_pred (negsuc n) = omega arith

pub mag_inc : (z : ℤ) → mag (z +ℤ pos 1) ≤ mag z + 1
mag_inc z = rw (+ℤ_one z) (mag_suc z)

pub mag_dec : (z : ℤ) → mag (z -ℤ pos 1) ≤ mag z + 1
mag_dec z = rw (-ℤ_one z) (mag_pred z)

-- ## Floor quotient and remainder

-- the remainder is below m, and quotient and remainder make the number
pub mod_below : (z : ℤ) (m : ℕ) → 0 < m → floor_mod z m < m
mod_below (pos a) m h = mod-lt a h
mod_below (negsuc a) m h = omega arith

pub div_mod : (z : ℤ) (m : ℕ) → 0 < m → z ≡ floor_div z m *ℤ pos m +ℤ pos (floor_mod z m)
div_mod (pos a) m h = ap pos (sym (div-add-mod' a m))
div_mod (negsuc a) m h =
    let e : a / m * m + a % m ≡ a = div-add-mod' a m in
    let l : a % m < m = mod-lt a h in
    let p : suc (a / m) * m ≡ a / m * m + m = suc-mul (a / m) m in
    let b : m - suc (a % m) < suc (a / m) * m = omega arith in
    let q : suc (a / m) * m - suc (m - suc (a % m)) ≡ a = omega arith in
    sym (+ℤ_comm (neg_ℤ (pos (suc (a / m) * m))) (pos (m - suc (a % m))) ∙ sub_lt (m - suc (a % m)) (suc (a / m) * m) b ∙ ap negsuc q)
