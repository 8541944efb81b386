-- The laws of numbers as text: the digits by the two cases of a number below 10 or not, how many there are, the last places, filled texts.
use mathlib.Core.Path.{◌≡◌, refl, sym, ap, ap₂, ◌∙◌, subst}
use mathlib.Core.List.{List, [], ◌∷◌, ◌++◌, append_assoc, append-nil}
use Prim.Native.Nat.{ℕ, zero, suc, ◌+◌, ◌-◌, ◌*◌, ◌/◌, ◌%◌, ◌^◌, ◌<◌, ◌≤◌, max}
use native.Mathlib.Nat.{pow-suc, pow-le-pow_right}
use native.Mathlib.Numerals.{add-one}
use native.Mathlib.Decide.{dec_lt}
use native.Mathlib.Omega.{arith}
use lib.Dec.{lit<}
use lib.ListN.{length, length-append, length-replicate, replicate, replicate-append-replicate}
use lib.IntN.{ℤ, pos, negsuc, nat_abs}
use lib.Signed.{mag}
use borrow.Author.Tests.{lt-ltb, le-ltb}
use Rattle.rules.specs.Decimal.{digits_within, digits, digit_count, places, two, minus_sign, decimal_text, Fill, zeros, spaces, filled, floor_div}

-- below 10 or not
by_ten {ℓ} : {X : Type ℓ} (n : ℕ) → (n < 10 → X) → (10 ≤ n → X) → X
by_ten n f g = elim (dec_lt n 10) [ yes h ↦ f h | no k ↦ g (omega arith) ]

within_small : (f n : ℕ) → n < 10 → digits_within (suc f) n ≡ (48 + n) ∷ []
unfolding digits_within
within_small f n h = rw (lt-ltb n 10 h, digits_within)

within_large : (f n : ℕ) → 10 ≤ n → digits_within (suc f) n ≡ digits_within f (n / 10) ++ ((48 + n % 10) ∷ [])
unfolding digits_within
within_large f n h = rw (le-ltb n 10 h, digits_within)

-- the fuel does not matter, if there is enough
within_same : (f g n : ℕ) → n < f → n < g → digits_within f n ≡ digits_within g n
within_same zero g n p q = absurd (omega arith)
within_same (suc f) zero n p q = absurd (omega arith)
within_same (suc f) (suc g) n p q =
    by_ten n (λ h. within_small f n h ∙ sym (within_small g n h))
    (λ h. within_large f n h ∙ ap (λ (l : List ℕ). l ++ ((48 + n % 10) ∷ [])) (within_same f g (n / 10) (omega arith) (omega arith)) ∙ sym (within_large g n h))

-- the two cases by which the digits go
pub digits_small : (n : ℕ) → n < 10 → digits n ≡ (48 + n) ∷ []
unfolding digits
digits_small n h = within_small n n h

pub digits_large : (n : ℕ) → 10 ≤ n → digits n ≡ digits (n / 10) ++ ((48 + n % 10) ∷ [])
unfolding digits
digits_large n h =
    within_large n n h ∙ ap (λ (l : List ℕ). l ++ ((48 + n % 10) ∷ [])) (within_same n (suc (n / 10)) (n / 10) (omega arith) (omega arith))

-- induction along the digits
module _ {ℓ} (P : ℕ → Type ℓ) (small : (n : ℕ) → n < 10 → P n) (large : (n : ℕ) → 10 ≤ n → P (n / 10) → P n) where
  ind_within : (f n : ℕ) → n < f → P n
  ind_within zero n p = absurd (omega arith)
  ind_within (suc f) n p = by_ten n (small n) (λ h. large n h (ind_within f (n / 10) (omega arith)))

  pub digits_ind : (n : ℕ) → P n
  digits_ind n = ind_within (suc n) n (omega arith)

-- ## How many digits

pub count_small : (n : ℕ) → n < 10 → digit_count n ≡ 1
count_small n h = ap length (digits_small n h)

pub count_large : (n : ℕ) → 10 ≤ n → digit_count n ≡ digit_count (n / 10) + 1
count_large n h = ap length (digits_large n h) ∙ length-append (digits (n / 10)) ((48 + n % 10) ∷ [])

pub count_pos : (n : ℕ) → 1 ≤ digit_count n
count_pos n = by_ten n (λ h. omega (arith, count_small n h)) (λ h. omega (arith, count_large n h))

-- a number below 10 ^ (k + 1) has at most k + 1 digits
pub count_le : (k n : ℕ) → n < 10 ^ suc k → digit_count n ≤ suc k
count_le zero n p = let q : n < 10 = p in omega (arith, count_small n q)
count_le (suc k) n p =
    by_ten n (λ h. omega (arith, count_small n h))
    (λ h. let q : n < 10 ^ suc k * 10 = subst (λ (m : ℕ). n < m) (pow-suc 10 (suc k)) p in
    let r : n / 10 < 10 ^ suc k = omega arith in
    omega (arith, count_large n h, count_le k (n / 10) r))

pub below_count : (n : ℕ) → n < 10 ^ digit_count n
below_count = digits_ind (λ n. n < 10 ^ digit_count n) one more
  where
    one : (n : ℕ) → n < 10 → n < 10 ^ digit_count n
    one n h = subst (λ (k : ℕ). n < 10 ^ k) (sym (count_small n h)) h

    more : (n : ℕ) → 10 ≤ n → n / 10 < 10 ^ digit_count (n / 10) → n < 10 ^ digit_count n
    more n h ih =
        let e : digit_count n ≡ suc (digit_count (n / 10)) = count_large n h ∙ omega arith in
        let p : 10 ^ digit_count n ≡ 10 ^ digit_count (n / 10) * 10 = ap (λ (k : ℕ). 10 ^ k) e ∙ pow-suc 10 (digit_count (n / 10)) in
        omega arith

-- a number from 10 ^ k on has more than k digits
pub count_above : (k n : ℕ) → 10 ^ k ≤ n → suc k ≤ digit_count n
count_above k n p =
    elim (dec_lt k (digit_count n)) [
      | yes h ↦ h
      | no h ↦ let q : 10 ^ digit_count n ≤ 10 ^ k = pow-le-pow_right (lit< tt) (omega arith) in absurd (omega (arith, below_count n))
    ]

pub count_is : (k n : ℕ) → 10 ^ k ≤ n → n < 10 ^ suc k → digit_count n ≡ suc k
count_is k n p q = omega (arith, count_above k n p, count_le k n q)

-- ## The last places

pub length_places : (k n : ℕ) → length (places k n) ≡ k
unfolding places
length_places zero n = refl
length_places (suc k) n =
    length-append (places k (n / 10)) ((48 + n % 10) ∷ []) ∙ omega (arith, length_places k (n / 10))

places_one : (n : ℕ) → n < 10 → digits n ≡ places (digit_count n) n
unfolding places
places_one n h =
    let e : n % 10 ≡ n = omega arith in
    rw (digits_small n h, e)

places_larger : (n : ℕ) → 10 ≤ n → digits (n / 10) ≡ places (digit_count (n / 10)) (n / 10) → digits n ≡ places (digit_count n) n
unfolding places
places_larger n h ih =
    let e : digit_count n ≡ suc (digit_count (n / 10)) = count_large n h ∙ omega arith in
    digits_large n h ∙ ap (λ (l : List ℕ). l ++ ((48 + n % 10) ∷ [])) ih ∙ sym (ap (λ (k : ℕ). places k n) e)

-- the digits are the last places, as many as there are digits
digits_places : (n : ℕ) → digits n ≡ places (digit_count n) n
digits_places = digits_ind (λ n. digits n ≡ places (digit_count n) n) places_one places_larger

pub digits_counted : (n : ℕ) {count : ℕ} → count ≡ digit_count n → places count n ≡ digits n
digits_counted n e = ap (λ (k : ℕ). places k n) e ∙ sym (digits_places n)

places_zero : (k : ℕ) → places k 0 ≡ replicate k 48
unfolding places
places_zero zero = refl
places_zero (suc k) = ap (λ (l : List ℕ). l ++ (48 ∷ [])) (places_zero k) ∙ replicate-append-replicate k 1 48 ∙ ap (λ (m : ℕ). replicate m 48) (add-one k)

-- more places than a number needs are zeros
pub places_more : (k c n : ℕ) → n < 10 ^ c → places (k + c) n ≡ replicate k 48 ++ places c n
unfolding places
places_more k zero n h =
    let z : n ≡ 0 = omega arith in
    let e : k + zero ≡ k = omega arith in
    ap (λ (m : ℕ). places (k + zero) m) z ∙ ap (λ (m : ℕ). places m 0) e ∙ places_zero k ∙ sym (append-nil (replicate k 48))
places_more k (suc c) n h =
    let e : k + suc c ≡ suc (k + c) = omega arith in
    let p : n < 10 ^ c * 10 = subst (λ (m : ℕ). n < m) (pow-suc 10 c) h in
    ap (λ (m : ℕ). places m n) e
    ∙ ap (λ (l : List ℕ). l ++ ((48 + n % 10) ∷ [])) (places_more k c (n / 10) (omega arith))
    ∙ append_assoc (replicate k 48) (places c (n / 10)) ((48 + n % 10) ∷ [])

pub places_padded : (k n : ℕ) → digit_count n ≤ k → places k n ≡ replicate (k - digit_count n) 48 ++ digits n
places_padded k n h =
    let e : k ≡ k - digit_count n + digit_count n = omega arith in
    ap (λ (m : ℕ). places m n) e ∙ places_more (k - digit_count n) (digit_count n) n (below_count n) ∙ ap (λ (l : List ℕ). replicate (k - digit_count n) 48 ++ l) (sym (digits_places n))

two_digits : (n : ℕ) → n < 100 → two n ≡ (48 + n / 10) ∷ (48 + n % 10) ∷ []
unfolding places
two_digits n h =
    let e : n / 10 % 10 ≡ n / 10 = omega arith in
    ap (λ (m : ℕ). (48 + m) ∷ (48 + n % 10) ∷ []) e

-- from a byte for each digit
pub two_is : (n : ℕ) {a b : ℕ} → n < 100 → a ≡ 48 + n / 10 → b ≡ 48 + n % 10 → a ∷ b ∷ [] ≡ two n
two_is n h p q = ap₂ (λ (x y : ℕ). x ∷ y ∷ []) p q ∙ sym (two_digits n h)

-- ## The text with its sign

pub length_decimal : (z : ℤ) → length (decimal_text z) ≡ length (minus_sign z) + digit_count (nat_abs z)
unfolding decimal_text
length_decimal z = length-append (minus_sign z) (digits (nat_abs z))

pub length_decimal_pos : (n : ℕ) → length (decimal_text (pos n)) ≡ digit_count n
unfolding decimal_text
length_decimal_pos n = refl

pub length_decimal_neg : (n : ℕ) → length (decimal_text (negsuc n)) ≡ digit_count (n + 1) + 1
unfolding decimal_text
length_decimal_neg n =
    let e : suc n ≡ n + 1 = omega arith in
    let f : digit_count (suc n) ≡ digit_count (n + 1) = ap digit_count e in
    omega arith

pub length_decimal_from : (z : ℤ) → 1 ≤ length (decimal_text z)
length_decimal_from (pos n) = omega (arith, length_decimal_pos n, count_pos n)
length_decimal_from (negsuc n) = omega (arith, length_decimal_neg n)

-- mag z is n of n and of −(n + 1): the least 64-bit number is among these
pub length_text_to : (z : ℤ) → mag z < 2 ^ 63 → length (decimal_text z) ≤ 20
length_text_to (pos n) h = omega (arith, length_decimal_pos n, count_le 18 n (omega arith))
length_text_to (negsuc n) h = omega (arith, length_decimal_neg n, count_le 18 (n + 1) (omega arith))

-- ## Filled to a width

-- a text that is as wide as the width takes no fill
pub filled_plain : (f : Fill) (w : ℕ) (z : ℤ) → w ≤ length (decimal_text z) → filled f w z ≡ decimal_text z
unfolding filled decimal_text
filled_plain zeros w z h =
    let e : w - length (decimal_text z) ≡ 0 = omega arith in
    ap (λ (k : ℕ). minus_sign z ++ (replicate k 48 ++ digits (nat_abs z))) e
filled_plain spaces w z h =
    let e : w - length (decimal_text z) ≡ 0 = omega arith in
    ap (λ (k : ℕ). replicate k 32 ++ decimal_text z) e

pub filled_zeros_places : (k n : ℕ) → n < 10 ^ k → 1 ≤ k → filled zeros k (pos n) ≡ places k n
unfolding filled decimal_text
filled_zeros_places zero n h p = absurd (omega arith)
filled_zeros_places (suc k) n h p = sym (places_padded (suc k) n (count_le k n h))

pub length_filled : (f : Fill) (w : ℕ) (z : ℤ) → length (filled f w z) ≡ max w (length (decimal_text z))
unfolding filled decimal_text
length_filled zeros w z = simp (length-append, length-replicate) (omega arith)
length_filled spaces w z = simp (length-append, length-replicate) (omega arith)

-- the day of the month with a space in front
pub day_text_small : (d : ℕ) → d < 10 → filled spaces 2 (pos d) ≡ 32 ∷ (48 + d) ∷ []
unfolding filled decimal_text
day_text_small d h = rw (digits_small d h)

pub day_text_large : (d : ℕ) → 10 ≤ d → d < 100 → filled spaces 2 (pos d) ≡ (48 + d / 10) ∷ (48 + d % 10) ∷ []
unfolding decimal_text
day_text_large d h k =
    let q : d / 10 < 10 = omega arith in
    let e : digits d ≡ (48 + d / 10) ∷ (48 + d % 10) ∷ [] = digits_large d h ∙ ap (λ (l : List ℕ). l ++ ((48 + d % 10) ∷ [])) (digits_small (d / 10) q) in
    filled_plain spaces 2 (pos d) (omega (arith, ap length e)) ∙ e

-- ## The floor quotient

-- "`C` of −1 is −1, not 0"
pub century_of_minus_one : floor_div (negsuc 0) 100 ≡ negsuc 0
century_of_minus_one = refl
