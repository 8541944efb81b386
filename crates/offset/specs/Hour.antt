-- The hour of an offset as an f64: a whole number with a sign, so that zero has one too.
use Rattle.std.specs.Prelude.{Bool, false, cond, ℕ, Float}
use Rattle.std.specs.Float.{nan, inf, fin, binary64}
use Rattle.std.specs.Float.Ieee.{round, of_bits, lt, neg, to_unsigned, in_unsigned}

-- so many hours, with a minus sign or without
unfoldable pub hour_of : Bool → ℕ → Float
unfolding round
hour_of negative hours = round binary64 negative hours 1

unfoldable pub is_sign_negative : Float → Bool
is_sign_negative nan = false
is_sign_negative (inf s) = s
is_sign_negative (fin s m e) = s

-- 10.0
unfoldable pub ten : Float
unfolding of_bits
ten = of_bits binary64 0x4024_0000_0000_0000

unfoldable pub below_ten : Float → Bool
unfolding ten lt
below_ten x = lt x ten

unfoldable pub absolute : Float → Float
unfolding neg is_sign_negative
absolute x = cond (is_sign_negative x) (neg x) x

-- the hours without the sign, and whether they are a u32
unfoldable pub whole_hours : Float → ℕ
unfolding absolute to_unsigned
whole_hours x = to_unsigned 32 (absolute x)

unfoldable pub is_hour : Float → Bool
unfolding absolute in_unsigned
is_hour x = in_unsigned binary64 32 (absolute x)
