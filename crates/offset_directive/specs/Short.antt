-- Which offsets are a sign, two digits of hours and the parts, with no other pad.
use Rattle.std.specs.Prelude.{Bool, true, false, not, cond, ◌&&◌, ◌||◌, ℕ, ltb}
use Rattle.rules.specs.declared.Padding.{Padding}
use Rattle.rules.specs.declared.Padding.TheVariants.{Left, Spaces, Zeros}

-- the fill is zero, the width asks for no more than the form's length, and the hours take two places: with a minus sign, which always gets the extra
-- place, one digit and that; else at most two digits
abbrev pub is_short : ℕ → ℕ → Bool → Bool → ℕ → Bool
is_short width length spaces minus hours = not (spaces || ltb length width) && ltb hours (cond minus 10 100)

abbrev pub is_spaces : Padding → Bool
is_spaces Left = false
is_spaces Spaces = true
is_spaces Zeros = false
