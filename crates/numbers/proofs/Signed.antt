-- How a signed number goes through the machine: what is read back of what was written, and the two signs.
use Rattle.std.specs.Prelude.{◌≡◌, ◌+◌, ◌<◌, ◌≤◌, true, false, ℤ, pos, negsuc, nat_abs}
use mathlib.Core.Path.{refl, ap, ◌∙◌, subst⁻¹}
use native.Mathlib.Omega.{arith}
use lib.Signed.{mag, lt_z, le_z}
use borrow.Author.Tests.{ltb-true}
use mir.Syntax.{Width, w32, w64}
use mir.Val.{SFits, of_z, to_z}
use mir.ValLaws.{to_z-of_z}

-- what is read back of a value that is known to be z
pub through : (w : Width) {y z : ℤ} → y ≡ z → SFits w z → to_z w (of_z w y) ≡ z
through w {y} {z} e f = ap (λ (k : ℤ). to_z w (of_z w k)) e ∙ to_z-of_z w z f

-- an i32 as an i64
widened_fits : (z : ℤ) → SFits w32 z → SFits w64 z
widened_fits z f = record { sfits = omega (arith, f.sfits) }

-- what the cast of an i32 to an i64 asks
pub widens : (z : ℤ) → SFits w32 z → SFits w64 (to_z w32 (of_z w32 z))
widens z f = subst⁻¹ (SFits w64) (to_z-of_z w32 z f) (widened_fits z f)

pub widened : (z : ℤ) → SFits w32 z → to_z w64 (of_z w64 (to_z w32 (of_z w32 z))) ≡ z
widened z f = through w64 (to_z-of_z w32 z f) (widened_fits z f)

-- the absolute value is the magnitude, or one more
pub abs_le : (z : ℤ) → nat_abs z ≤ mag z + 1
abs_le (pos n) = omega arith
abs_le (negsuc n) = omega arith

-- the sign, from the test x < 0
neg_mag : (x : ℤ) → lt_z x (pos 0) ≡ true → x ≡ negsuc (mag x)
neg_mag (pos n) t = let h : n < 0 = ltb-true n 0 t in absurd (omega arith)
neg_mag (negsuc n) t = refl

pos_mag : (x : ℤ) → lt_z x (pos 0) ≡ false → x ≡ pos (mag x)
pos_mag (pos n) t = refl
pos_mag (negsuc n) t = let z : true ≡ false = t in cc

-- and from 0 <= x
nat_mag : (x : ℤ) → le_z (pos 0) x ≡ true → x ≡ pos (mag x)
nat_mag (pos n) t = refl
nat_mag (negsuc n) t = let z : false ≡ true = t in cc

pub is_neg : (w : Width) (x : ℤ) → SFits w x → lt_z (to_z w (of_z w x)) (pos 0) ≡ true → x ≡ negsuc (mag x)
is_neg w x f t = neg_mag x (rw (to_z-of_z w x f) at t)

pub is_pos : (w : Width) (x : ℤ) → SFits w x → lt_z (to_z w (of_z w x)) (pos 0) ≡ false → x ≡ pos (mag x)
is_pos w x f t = pos_mag x (rw (to_z-of_z w x f) at t)

pub is_nat : (w : Width) (x : ℤ) → SFits w x → le_z (pos 0) (to_z w (of_z w x)) ≡ true → x ≡ pos (mag x)
is_nat w x f t = nat_mag x (rw (to_z-of_z w x f) at t)
