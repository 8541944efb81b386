-- A decimal number as text, read.
use Rattle.std.specs.Prelude.{Bool, true, cond, ◌&&◌, List, [], ◌∷◌, ℕ, ◌+◌, ◌*◌, ◌≤◌, leb, eqb, ℤ, pos, neg_ℤ, Option, Some, None}
use Rattle.std.specs.Int.Signed.{mag}
use Rattle.rules.specs.Ascii.{byte}
use Rattle.rules.specs.Reading.{is_digit, digit_of}

unfoldable pub all_digits : List ℕ → Bool
all_digits [] = true
all_digits (b ∷ bytes) = is_digit b && all_digits bytes

-- the number whose digits are those of `value` and then the bytes
unfoldable pub number_from : ℕ → List ℕ → ℕ
number_from value [] = value
number_from value (b ∷ bytes) = number_from (value * 10 + digit_of b) bytes

-- where all bytes are digits, and the number is at most `most`
abbrev pub number_behind : ℕ → ℕ → List ℕ → Option ℕ
number_behind most value bytes =
    cond (all_digits bytes && leb (number_from value bytes) most) (Some (number_from value bytes)) None

unfoldable pub number_of : ℕ → List ℕ → Option ℕ
number_of most [] = None
number_of most (b ∷ bytes) = number_behind most 0 (b ∷ bytes)

abbrev pub positive : Option ℕ → Option ℤ
positive (Some n) = Some (pos n)
positive None = None

abbrev pub negative : Option ℕ → Option ℤ
negative (Some n) = Some (neg_ℤ (pos n))
negative None = None

-- a number from -1 - most to most
unfoldable pub signed_of : ℕ → List ℕ → Option ℤ
signed_of most [] = None
signed_of most (b ∷ bytes) =
    cond (eqb b (byte "-")) (negative (number_of (most + 1) bytes)) (positive (number_of most (b ∷ bytes)))

-- mag z is n both for n and for -1 - n
abbrev pub SignedWithin : ℕ → Option ℤ → Type 0
SignedWithin most (Some z) = mag z ≤ most
SignedWithin most None = Unit {0}
