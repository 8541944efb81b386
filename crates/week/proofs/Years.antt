-- Years as the machine holds them: what is read back of a value, its remainders, one more and one less.
use mathlib.Core.Path.{◌≡◌, refl, sym, ap, ◌∙◌, subst⁻¹}
use mathlib.Core.Bool.{Bool, true, false, not, ◌&&◌, ◌||◌}
use mathlib.Core.Logic.{◌⊎◌, inl, inr, ⊎_elim}
use Prim.Native.Nat.{ℕ, zero, suc, ◌+◌, ◌-◌, ◌%◌, ◌^◌, ◌<◌, ◌≤◌}
use native.Mathlib.Nat.{mod-lt, mod_self, mod-eq_of_lt, suc-mod}
use native.Mathlib.Decide.{dec_lt}
use native.Mathlib.Omega.{arith}
use borrow.Author.Tests.{eq-eqb, ne_eqb}
use lib.Dec.{eqb}
use lib.IntN.{ℤ, pos, negsuc, neg_ℤ}
use lib.Signed.{mag, rem_z}
use mir.Syntax.{w64}
use mir.Val.{SFits, to_z, of_z}
use mir.ValLaws.{to_z-of_z}
use Rattle.rules.specs.Decimal.{floor_mod}
use Rattle.rules.specs.Calendar.{is_leap}
use Rattle.numbers.proofs.Signed.{through}

-- ## Remainders

-- the remainder by m, with the year's sign
abbrev pub rest : ℕ → ℤ → ℕ
rest m y = of_z w64 (rem_z (to_z w64 (of_z w64 y)) (pos m))

-- it is 0 exactly where the floor remainder is
module _ (m : ℕ) (from : 0 < m) (to : m ≤ 400) where
  next : (x : ℕ) → x < m → ((suc x < m) × (suc x % m ≡ suc x)) ⊎ ((suc x ≡ m) × (suc x % m ≡ 0))
  next x h =
      elim (dec_lt (suc x) m) [
        | yes l ↦ inl (l, mod-eq_of_lt l)
        | no l ↦ let e : suc x ≡ m = omega arith in inr (e, ap (λ (n : ℕ). n % m) e ∙ mod_self m)
      ]

  negative : (a r : ℕ) → r ≡ suc (a % m) % m → eqb (of_z w64 (neg_ℤ (pos r))) 0 ≡ eqb (m - suc (a % m)) 0
  negative a zero e = ⊎_elim (λ l. absurd (omega arith)) (λ l. sym (eq-eqb (m - suc (a % m)) 0 (omega arith))) (next (a % m) (mod-lt a from))
  negative a (suc r) e =
      ⊎_elim
      (λ l. ne_eqb (2 ^ 64 - suc r) 0 (λ z. omega arith) ∙ sym (ne_eqb (m - suc (a % m)) 0 (λ z. omega arith)))
      (λ l. absurd (omega arith))
      (next (a % m) (mod-lt a from))

  rest_sign : (y : ℤ) → eqb (of_z w64 (rem_z y (pos m))) 0 ≡ eqb (floor_mod y m) 0
  rest_sign (pos a) = refl
  rest_sign (negsuc a) = negative a (suc a % m) (suc-mod a m)

  divides : {y : ℤ} → SFits w64 y → eqb (rest m y) 0 ≡ eqb (floor_mod y m) 0
  divides {y} f = ap (λ (z : ℤ). eqb (of_z w64 (rem_z z (pos m))) 0) (to_z-of_z w64 y f) ∙ rest_sign y

abbrev leap : Bool → Bool → Bool → Bool
leap by400 by4 by100 = by400 || (by4 && not by100)

leap_is : {y : ℤ} → SFits w64 y → leap (eqb (rest 400 y) 0) (eqb (rest 4 y) 0) (eqb (rest 100 y) 0) ≡ is_leap y
unfolding is_leap
leap_is {y} f = cc (divides 400 (omega arith) (omega arith) f, divides 4 (omega arith) (omega arith) f, divides 100 (omega arith) (omega arith) f)

-- the three ways through the tests
pub leap_by_400 : {y : ℤ} → SFits w64 y → rest 400 y ≡ 0 → eqb (rest 400 y) 0 ≡ is_leap y
leap_by_400 {y} f e = taken (eqb (rest 400 y) 0) _ (eq-eqb (rest 400 y) 0 e) ∙ leap_is f
  where
    taken : (a b : Bool) → a ≡ true → a ≡ (a || b)
    taken true b t = refl
    taken false b t = cc

module _ {y : ℤ} (f : SFits w64 y) (other : rest 400 y ≡ 0 → ⊥) where
  by_4 : leap false (eqb (rest 4 y) 0) (eqb (rest 100 y) 0) ≡ is_leap y
  by_4 = sym (ap (λ (a : Bool). leap a (eqb (rest 4 y) 0) (eqb (rest 100 y) 0)) (ne_eqb (rest 400 y) 0 other)) ∙ leap_is f

  pub leap_by_4 : rest 4 y ≡ 0 → not (eqb (rest 100 y) 0) ≡ is_leap y
  leap_by_4 e = sym (ap (λ (b : Bool). leap false b (eqb (rest 100 y) 0)) (eq-eqb (rest 4 y) 0 e)) ∙ by_4

  pub leap_not : (rest 4 y ≡ 0 → ⊥) → eqb (rest 4 y) 0 ≡ is_leap y
  leap_not g = ne_eqb (rest 4 y) 0 g ∙ sym (ap (λ (b : Bool). leap false b (eqb (rest 100 y) 0)) (ne_eqb (rest 4 y) 0 g)) ∙ by_4

-- ## One year on or back

module _ (g : ℤ → ℤ) (near : (y : ℤ) → mag (g y) ≤ mag y + 1) {y : ℤ} (f : SFits w64 y) (h : mag y ≤ 2 ^ 31) where
  step_fits : SFits w64 (g y)
  step_fits = record { sfits = omega (arith, near y) }

  pub step_asks : SFits w64 (g (to_z w64 (of_z w64 y)))
  step_asks = subst⁻¹ (λ (z : ℤ). SFits w64 (g z)) (to_z-of_z w64 y f) step_fits

  pub step_read : to_z w64 (of_z w64 (g (to_z w64 (of_z w64 y)))) ≡ g y
  step_read = through w64 (ap g (to_z-of_z w64 y f)) step_fits
