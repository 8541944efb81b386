-- Every number of the range is read from its decimal text, as the rules write it, and no other number is read.
use mathlib.Core.Path.{◌≡◌, refl, ap, ◌∙◌}
use mathlib.Core.Bool.{Bool, true, false, cond, ◌&&◌}
use mathlib.Core.List.{List, [], ◌∷◌, ◌++◌}
use Prim.Native.Nat.{ℕ, zero, suc, ◌+◌, ◌*◌, ◌/◌, ◌%◌, ◌≤◌, ◌<◌}
use native.Mathlib.Omega.{arith}
use lib.Dec.{eqb}
use lib.ListN.{length}
use lib.IntN.{ℤ, pos, negsuc}
use lib.Signed.{mag}
use borrow.Author.Tests.{le-leb, ne_eqb}
use Rattle.std.specs.Prelude.{Option, Some, None}
use Rattle.rules.specs.Decimal.{digits, decimal_text}
use Rattle.rules.specs.Reading.{is_digit}
use Rattle.rules.proofs.DecimalLaws.{digits_small, digits_large, digits_ind, count_pos}
use Rattle.stamp.specs.Numbers.{all_digits, number_from, number_of, positive, negative, signed_of, SignedWithin}
use Rattle.stamp.proofs.SignedLaws.{within}

-- the bytes are digits, and say n
record Say (n : ℕ) (bytes : List ℕ) : Type 0 where
  all : all_digits bytes ≡ true
  number : number_from 0 bytes ≡ n

digit : (d : ℕ) → d < 10 → is_digit (48 + d) ≡ true
digit d h = rw (le-leb 48 (48 + d) (omega arith), le-leb (48 + d) 57 (omega arith))

all_more : (bytes : List ℕ) (d : ℕ) → d < 10 → all_digits bytes ≡ true → all_digits (bytes ++ ((48 + d) ∷ [])) ≡ true
unfolding all_digits
all_more [] d h e = rw (digit d h)
all_more (b ∷ bytes) d h e = go (is_digit b) (all_more bytes d h) e
  where
    go : (t : Bool) → (all_digits bytes ≡ true → all_digits (bytes ++ ((48 + d) ∷ [])) ≡ true) → (t && all_digits bytes) ≡ true → (t && all_digits (bytes ++ ((48 + d) ∷ []))) ≡ true
    go true more e = more e
    go false more e = e

number_more : (bytes : List ℕ) (value d : ℕ) → number_from value (bytes ++ ((48 + d) ∷ [])) ≡ number_from value bytes * 10 + d
unfolding number_from
number_more [] value d = omega arith
number_more (b ∷ bytes) value d = number_more bytes _ d

digits_say : (n : ℕ) → Say n (digits n)
unfolding all_digits number_from
digits_say = digits_ind (λ (n : ℕ). Say n (digits n)) small large
  where
    small : (n : ℕ) → n < 10 → Say n (digits n)
    small n h = rw (digits_small n h) (record { all = rw (digit n h); number = omega arith })

    large : (n : ℕ) → 10 ≤ n → Say (n / 10) (digits (n / 10)) → Say n (digits n)
    large n h before =
        rw (digits_large n h)
        (record {
          all = all_more (digits (n / 10)) (n % 10) (omega arith) before.all;
          number = omega (arith, number_more (digits (n / 10)) 0 (n % 10), before.number);
        })

module _ (most n : ℕ) (h : n ≤ most) where
  said : (bytes : List ℕ) → 1 ≤ length bytes → Say n bytes → number_of most bytes ≡ Some n
  unfolding number_of
  said [] k s = absurd (omega arith)
  said (b ∷ bytes) k s = rw (s.all, s.number, le-leb n most h)

  pub read_digits : number_of most (digits n) ≡ Some n
  read_digits = said (digits n) (count_pos n) (digits_say n)

not_minus : (b : ℕ) (bytes : List ℕ) → all_digits (b ∷ bytes) ≡ true → b ≡ 45 → ⊥
unfolding all_digits
not_minus b bytes e k = let z : false ≡ true = rw k at e in cc

unsigned_text : (most : ℕ) (bytes : List ℕ) → all_digits bytes ≡ true → 1 ≤ length bytes → signed_of most bytes ≡ positive (number_of most bytes)
unfolding signed_of
unsigned_text most [] e h = absurd (omega arith)
unsigned_text most (b ∷ bytes) e h = rw (ne_eqb b 45 (not_minus b bytes e))

pub reads_back : (most : ℕ) (z : ℤ) → mag z ≤ most → signed_of most (decimal_text z) ≡ Some z
unfolding decimal_text signed_of
reads_back most (pos n) h = unsigned_text most (digits n) (digits_say n).all (count_pos n) ∙ ap positive (read_digits most n h)
reads_back most (negsuc n) h = ap negative (read_digits (most + 1) (suc n) (omega arith))

-- what is read lies in the range
signed_within : (most : ℕ) (bytes : List ℕ) (z : ℤ) → Some z ≡ signed_of most bytes → mag z ≤ most
unfolding signed_of
signed_within most [] z e = cc
signed_within most (b ∷ bytes) z e = go (eqb b 45) e
  where
    plain : (x : Option ℕ) → x ≡ number_of most (b ∷ bytes) → Some z ≡ positive x → mag z ≤ most
    plain (Some n) k e = let same : z ≡ pos n = cc in rw same (within most (b ∷ bytes) n k)
    plain None k e = cc

    minus : (x : Option ℕ) → x ≡ number_of (most + 1) bytes → Some z ≡ negative x → mag z ≤ most
    minus (Some zero) k e = let same : z ≡ pos 0 = cc in rw same (omega arith)
    minus (Some (suc n)) k e = let same : z ≡ negsuc n = cc in rw same (omega (arith, within (most + 1) bytes (suc n) k))
    minus None k e = cc

    go : (t : Bool) → Some z ≡ cond t (negative (number_of (most + 1) bytes)) (positive (number_of most (b ∷ bytes))) → mag z ≤ most
    go true e = minus _ refl e
    go false e = plain _ refl e

pub in_range : (most : ℕ) (bytes : List ℕ) (x : Option ℤ) → x ≡ signed_of most bytes → SignedWithin most x
in_range most bytes (Some z) e = signed_within most bytes z e
in_range most bytes None e = tt
