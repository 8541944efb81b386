-- A filled number as the texts that are written one after the other.
use Rattle.std.specs.Prelude.{◌≡◌, ℕ, suc, ◌+◌, ◌-◌, ◌/◌, ◌%◌, ◌<◌, ◌≤◌, Bool, true, false, ◌⊎◌, List, [], ◌∷◌, ◌++◌, length, take, drop, replicate, ℤ, pos, negsuc}
use mathlib.Core.Path.{refl, sym, ap, ap₂, ◌∙◌}
use mathlib.Core.Logic.{⊎_elim}
use native.Mathlib.Omega.{arith}
use lib.Seq.{take_at}
use lib.Signed.{mag}
use Rattle.rules.specs.Decimal.{digits, places, decimal_text, Fill, zeros, fill_byte, filled}
use Rattle.rules.specs.Writing.{year_width, year_text}
use Rattle.rules.proofs.DecimalLaws.{filled_plain}
use Rattle.numbers.proofs.TextLaws.{text_front}
use Rattle.printing.specs.FillWith.{fill_with}

-- all of the fill is in front, but of a negative number's zeros
in_front : (b : Bool) (w : ℕ) (z : ℤ) → (b ≡ false) ⊎ (z ≡ pos (mag z)) → replicate (w - length (decimal_text z)) (fill_byte (fill_with b)) ++ decimal_text z ≡ filled (fill_with b) w z
unfolding filled decimal_text
in_front false w z k = refl
in_front true w (pos n) k = refl
in_front true w (negsuc n) k = ⊎_elim (λ e. cc) (λ e. cc) k

-- ## From the printer's bytes and count, of a number that is known to be z

module _ {y z : ℤ} (same : y ≡ z) (w : ℕ) {bytes : List ℕ} {count : ℕ} (e : bytes ≡ decimal_text y ++ replicate (20 - count) 0) (f : count ≡ length (decimal_text y)) where
  text : take count bytes ≡ decimal_text z
  text = text_front y bytes (replicate (20 - count) 0) count e f ∙ ap decimal_text same

  long : count ≡ length (decimal_text z)
  long = f ∙ ap (λ (x : ℤ). length (decimal_text x)) same

  pub text_alone : (fill : Fill) → w ≤ count → take count bytes ≡ filled fill w z
  text_alone fill h = text ∙ sym (filled_plain fill w z (omega (arith, long)))

  pub text_behind : (b : Bool) {byte : ℕ} → byte ≡ fill_byte (fill_with b) → (b ≡ false) ⊎ (z ≡ pos (mag z)) → replicate (w - count) byte ++ take count bytes ≡ filled (fill_with b) w z
  text_behind b g k = rw (g, text, long) (in_front b w z k)

  -- zeros after the sign
  pub text_after_sign : {n : ℕ} → z ≡ negsuc n → (45 ∷ []) ++ (replicate (w - count) 48 ++ take (count - 1) (drop 1 bytes)) ≡ filled zeros w (negsuc n)
  unfolding filled decimal_text
  text_after_sign {n} s =
      let d = digits (suc n) in
      let l : count ≡ length (45 ∷ d) = long ∙ ap (λ (x : ℤ). length (decimal_text x)) s in
      let back : drop 1 bytes ≡ d ++ replicate (20 - count) 0 = ap (drop 1) (e ∙ ap (λ (x : ℤ). decimal_text x ++ replicate (20 - count) 0) (same ∙ s)) in
      rw (back, take_at d (replicate (20 - count) 0) (count - 1) (omega arith), l)

-- the fill by the flag that was tested
pub as_asked : (w : ℕ) {z was : Bool} {v x : ℤ} → z ≡ was → v ≡ x → filled (fill_with was) w x ≡ filled (fill_with z) w v
as_asked w e f = ap₂ (λ (b : Bool) (y : ℤ). filled (fill_with b) w y) (sym e) (sym f)

-- a year of the width that it asks for
pub year_filled : {y z : ℤ} {k : ℕ} → y ≡ z → year_width z ≡ k → filled zeros k y ≡ year_text z
year_filled e w = ap₂ (filled zeros) (sym w) e

-- four digits by two pairs
pub four_places : (v : ℕ) → v < 10000 → places 4 v ≡ (48 + v / 100 / 10) ∷ (48 + v / 100 % 10) ∷ (48 + v % 100 / 10) ∷ (48 + v % 100 % 10) ∷ []
unfolding places
four_places v h =
    let a : v / 10 / 10 / 10 % 10 ≡ v / 100 / 10 = omega arith in
    let b : v / 10 / 10 % 10 ≡ v / 100 % 10 = omega arith in
    let c : v / 10 % 10 ≡ v % 100 / 10 = omega arith in
    let d : v % 10 ≡ v % 100 % 10 = omega arith in
    cc
