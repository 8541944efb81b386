-- The sign and the digits, written over zeros, are the decimal text and zeros after it.
use Rattle.std.specs.Prelude.{◌≡◌, ℕ, zero, suc, ◌+◌, ◌-◌, ◌≤◌, List, ◌++◌, length, take, drop, replicate, ℤ, nat_abs}
use mathlib.Core.Path.{refl, sym, ap, ap₂, ◌∙◌}
use mathlib.Core.List.{append_assoc}
use native.Mathlib.Omega.{arith}
use lib.Seq.{take_at, drop_at, drop-drop}
use Rattle.rules.specs.Decimal.{digits, digit_count, places, minus_sign, decimal_text}
use Rattle.rules.proofs.DecimalLaws.{digits_counted, length_decimal, length_decimal_from}

same : {m n : ℕ} (a : ℕ) → m ≡ n → replicate m a ≡ replicate n a
same a e = ap (λ (m : ℕ). replicate m a) e

drop_replicate : (k n a : ℕ) → drop k (replicate n a) ≡ replicate (n - k) a
drop_replicate zero n a = let e : n ≡ n - zero = omega arith in same a e
drop_replicate (suc k) zero a = let e : zero ≡ zero - suc k = omega arith in same a e
drop_replicate (suc k) (suc n) a = let e : n - k ≡ suc n - suc k = omega arith in drop_replicate k n a ∙ same a e

module _ (z : ℤ) (sign : List ℕ) (rest : ℕ) (s : minus_sign z ≡ sign) (room : length sign + rest ≡ 20) (size n at : ℕ) (start l : List ℕ)
    (m : size ≡ nat_abs z) (d : n ≡ digit_count size) (b : start ≡ sign ++ replicate rest 0) (a : at ≡ length sign)
    (w : l ≡ take at start ++ (places n size ++ drop (at + n) start)) where
  count_is : at + n ≡ length (decimal_text z)
  count_is = omega (arith, length_decimal z, ap length s, ap digit_count m)

  front : take at start ≡ minus_sign z
  front = ap₂ take a b ∙ take_at sign (replicate rest 0) (length sign) refl ∙ sym s

  back : drop (at + n) start ≡ replicate (20 - (at + n)) 0
  back =
      let e : rest - n ≡ 20 - (at + n) = omega arith in
      sym (drop-drop n at start) ∙ ap (drop n) (ap₂ drop a b ∙ drop_at sign (replicate rest 0) (length sign) refl) ∙ drop_replicate n rest 0 ∙ same 0 e

  text_is : l ≡ decimal_text z ++ replicate (20 - (at + n)) 0
  unfolding decimal_text
  text_is =
      w
      ∙ ap₂ (λ (x y : List ℕ). x ++ y) front (ap₂ (λ (x y : List ℕ). x ++ y) (digits_counted size d ∙ ap digits m) back)
      ∙ sym (append_assoc (minus_sign z) (digits (nat_abs z)) (replicate (20 - (at + n)) 0))

  pub printed : (l ≡ decimal_text z ++ replicate (20 - (at + n)) 0) × (at + n ≡ length (decimal_text z))
  printed = (text_is, count_is)

-- what a caller of the printer wants of its bytes and count
module _ (z : ℤ) (bytes rest : List ℕ) (count : ℕ) (e : bytes ≡ decimal_text z ++ rest) (f : count ≡ length (decimal_text z)) where
  pub text_some : 1 ≤ count
  text_some = omega (arith, f, length_decimal_from z)

  pub text_front : take count bytes ≡ decimal_text z
  text_front = ap (take count) e ∙ take_at (decimal_text z) rest count (sym f)
