-- A number with a sign.
use mathlib.Core.Path.{◌≡◌, refl, ap, ◌∙◌}
use Rattle.std.proofs.lemmas.Int.{ints}
use mathlib.Core.Bool.{Bool, true, false, cond, ◌&&◌}
use mathlib.Core.List.{List, [], ◌∷◌}
use Prim.Native.Nat.{ℕ, ◌+◌, ◌^◌, ◌≤◌, ◌<◌}
use native.Mathlib.Omega.{arith}
use lib.Dec.{leb}
use borrow.Author.Tests.{leb-true, ne_eqb}
use Rattle.std.specs.Prelude.{Some, None, Option, ℤ, pos, neg_ℤ, ◌+ℤ◌, ◌-ℤ◌, FitsSigned, ◌≢◌}
use Rattle.std.specs.Int.{w64}
use Rattle.std.specs.Option.{SomeIff}
use Rattle.stamp.specs.Numbers.{all_digits, number_from, number_of, positive, negative, signed_of}

pub within : (most : ℕ) (bytes : List ℕ) (n : ℕ) → Some n ≡ number_of most bytes → n ≤ most
unfolding number_of
within most [] n e = cc
within most (b ∷ bytes) n e = go (all_digits (b ∷ bytes)) (leb (number_from 0 (b ∷ bytes)) most) refl e
  where
    go : (s t : Bool) → leb (number_from 0 (b ∷ bytes)) most ≡ t → Some n ≡ cond (s && t) (Some (number_from 0 (b ∷ bytes))) None → n ≤ most
    go true true h e = let k : n ≡ number_from 0 (b ∷ bytes) = cc in omega (arith, leb-true (number_from 0 (b ∷ bytes)) most h)
    go true false h e = cc
    go false t h e = cc

-- ## By the first byte

pub unsigned : (most : ℕ) (bytes : List ℕ) → ((digits : List ℕ) → bytes ≢ 45 ∷ digits) → positive (number_of most bytes) ≡ signed_of most bytes
unfolding number_of signed_of
unsigned most [] h = refl
unsigned most (b ∷ bytes) h = rw (ne_eqb b 45 (λ e. h bytes (ap (λ x. x ∷ bytes) e)))

pub signed_minus : (most : ℕ) (bytes digits : List ℕ) → bytes ≡ 45 ∷ digits → negative (number_of (most + 1) digits) ≡ signed_of most bytes
unfolding signed_of
signed_minus most bytes digits e = rw e

-- ## What fits

given : (r : Option ℤ) (z y : ℤ) → FitsSigned w64 z → z ≡ y → SomeIff r (FitsSigned w64 z) z → r ≡ Some y
given None z y h e k = absurd (k h)
given (Some x) z y h e k = ap Some (k.1 ∙ e)

module _ (n : ℕ) (r : Option ℤ) where
  pub added : n < 2 ^ 63 → SomeIff r (FitsSigned w64 (pos 0 +ℤ pos n)) (pos 0 +ℤ pos n) → r ≡ Some (pos n)
  added h = given r _ _ (search (arith, ints)) (search (arith, ints))

  pub taken : n ≤ 2 ^ 63 → SomeIff r (FitsSigned w64 (pos 0 -ℤ pos n)) (pos 0 -ℤ pos n) → r ≡ Some (neg_ℤ (pos n))
  taken h = given r _ _ (search (arith, ints)) (search (arith, ints))
