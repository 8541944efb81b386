-- Numbers as text, and the floor quotient and remainder (01, "Writing a directive": "Numbers" and "`C` and `y`").
use Rattle.std.specs.Prelude.{true, false, List, [], ◌∷◌, ◌++◌, ℕ, zero, suc, ◌+◌, ◌-◌, ◌/◌, ◌%◌, ltb, length, replicate, ℤ, pos, negsuc, nat_abs}
use Rattle.rules.specs.Ascii.{byte, ascii}

-- the decimal digits of n, at most `fuel` of them
unfoldable pub digits_within : ℕ → ℕ → List ℕ
digits_within zero n = []
digits_within (suc fuel) n =
    elim (ltb n 10) [ true ↦ (byte "0" + n) ∷ [] | false ↦ digits_within fuel (n / 10) ++ ((byte "0" + n % 10) ∷ []) ]

-- the decimal digits of n with no zeros in front; "0" for 0. (n + 1 digits are always enough.)
unfoldable pub digits : ℕ → List ℕ
digits n = digits_within (suc n) n

abbrev pub digit_count : ℕ → ℕ
digit_count n = length (digits n)

-- the last k decimal digits of n, zeros in front where n has fewer
unfoldable pub places : ℕ → ℕ → List ℕ
places zero n = []
places (suc k) n = places k (n / 10) ++ ((byte "0" + n % 10) ∷ [])

abbrev pub two : ℕ → List ℕ
two n = places 2 n

abbrev pub minus_sign : ℤ → List ℕ
minus_sign (pos n) = []
minus_sign (negsuc n) = ascii "-"

-- "plain decimal"
unfoldable pub decimal_text : ℤ → List ℕ
decimal_text z = minus_sign z ++ digits (nat_abs z)

pub data Fill : Type 0 where
  zeros spaces : Fill

abbrev pub fill_byte : Fill → ℕ
fill_byte zeros = byte "0"
fill_byte spaces = byte " "

-- "Zeros go after a minus sign, spaces before it."
unfoldable pub filled : Fill → ℕ → ℤ → List ℕ
filled zeros width z = minus_sign z ++ (replicate (width - length (decimal_text z)) (byte "0") ++ digits (nat_abs z))
filled spaces width z = replicate (width - length (decimal_text z)) (byte " ") ++ decimal_text z

-- the quotient rounded down. negsuc a is −(a + 1)
abbrev pub floor_div : ℤ → ℕ → ℤ
floor_div (pos a) m = pos (a / m)
floor_div (negsuc a) m = negsuc (a / m)

-- and what is left, from 0 to m − 1
abbrev pub floor_mod : ℤ → ℕ → ℕ
floor_mod (pos a) m = a % m
floor_mod (negsuc a) m = m - suc (a % m)
