-- Reading a directive (01, "Reading a directive"): what one byte after the percent sign does, in 01's five steps.
use Rattle.std.specs.Prelude.{Bool, true, false, cond, not, ◌&&◌, List, [], ◌∷◌, map, ℕ, ◌+◌, ◌-◌, ◌*◌, min, ltb, leb, eqb, Option, Some, None}
use Rattle.rules.specs.declared.Flag.{Flag}
use Rattle.rules.specs.declared.Flag.TheVariants.{LeftPadding, ChangeCase, UpperCase}
use Rattle.rules.specs.declared.Flags.{Flags}
use Rattle.rules.specs.declared.Padding.{Padding}
use Rattle.rules.specs.declared.Padding.TheVariants.{Left, Spaces, Zeros}
use Rattle.rules.specs.declared.Options.{Options}
use Rattle.rules.specs.declared.Number.TheVariants.{Year4Digits, YearDiv100, YearRem100, Month, MonthDayZero, MonthDaySpace, YearDay, Hour24hZero, Hour24hSpace, Hour12hZero, Hour12hSpace, Minute, Second, WeekDayFrom1, WeekDayFrom0, YearIso8601, YearIso8601Rem100, WeekNumberIso8601, WeekNumberFromSunday, WeekNumberFromMonday, SecondsSinceEpoch}
use Rattle.rules.specs.declared.Name.TheVariants.{MonthName, MonthNameAbbr, MeridianLower, MeridianUpper, WeekDayName, WeekDayNameAbbr}
use Rattle.rules.specs.declared.Fraction.TheVariants.{MilliSecond, FractionalSecond}
use Rattle.rules.specs.declared.Offset.TheVariants.{TimeZoneOffsetHourMinute, TimeZoneOffsetHourMinuteColon, TimeZoneOffsetHourMinuteSecondColon, TimeZoneOffsetColonMinimal}
use Rattle.rules.specs.declared.Fixed.TheVariants.{Newline, Tabulation, Percent}
use Rattle.rules.specs.declared.Combination.TheVariants.{CombinationDateTime, CombinationDate, CombinationIso8601, CombinationVmsDate, CombinationTime12h, CombinationHourMinute24h, CombinationTime24h}
use Rattle.rules.specs.declared.Spec.{Spec}
use Rattle.rules.specs.declared.Spec.TheVariants.{Number as number, Name as name, Fraction as fraction, Offset as offset, TimeZoneName, Fixed as fixed, Combination as combination}
use Rattle.rules.specs.declared.Piece.{Piece}
use Rattle.rules.specs.declared.Modifier.{Modifier}
use Rattle.rules.specs.declared.Modifier.TheVariants.{E, O}
use Rattle.rules.specs.declared.Reading.{Reading}
use Rattle.rules.specs.declared.Reading.TheVariants.{InFlags, InWidth, AtModifier, InColons}
use Rattle.rules.specs.declared.Turn.{Turn}
use Rattle.rules.specs.declared.Turn.TheVariants.{More, Found, Echoed, Unread}
use Rattle.rules.specs.Ascii.{byte, ascii}

abbrev pub no_flags : Flags
no_flags = record { left = false; change = false; upper = false }

abbrev pub with_flag : Flags → Flag → Flags
with_flag f LeftPadding = record { left = true; change = f.change; upper = f.upper }
with_flag f ChangeCase = record { left = f.left; change = true; upper = f.upper }
with_flag f UpperCase = record { left = f.left; change = f.change; upper = true }

abbrev pub has_flag : Flags → Flag → Bool
has_flag f LeftPadding = f.left
has_flag f ChangeCase = f.change
has_flag f UpperCase = f.upper

abbrev pub outset : Options
outset = record { padding = Left; flags = no_flags }

abbrev pub padded : Options → Padding → Options
padded o p = record { padding = p; flags = o.flags }

abbrev pub flagged : Options → Flag → Options
flagged o f = record { padding = o.padding; flags = with_flag o.flags f }

-- 1. "Flags, any number in any order. `-`: left flag set, padding Left. `_`: padding Spaces. `0`: padding Zeros. `^`: upper.
-- `#`: change." What a byte that is a flag makes of the options, or else what is read of it
unfoldable pub on_flag : Options → ℕ → Turn → Turn
on_flag o b other =
    cond (eqb b (byte "-")) (More (InFlags (flagged (padded o Left) LeftPadding)))
    (cond (eqb b (byte "_")) (More (InFlags (padded o Spaces)))
    (cond (eqb b (byte "0")) (More (InFlags (padded o Zeros)))
    (cond (eqb b (byte "^")) (More (InFlags (flagged o UpperCase)))
    (cond (eqb b (byte "#")) (More (InFlags (flagged o ChangeCase)))
    other))))

-- 2. "Decimal digits."
abbrev pub is_digit : ℕ → Bool
is_digit b = leb (byte "0") b && leb b (byte "9")

abbrev pub digit_of : ℕ → ℕ
digit_of b = b - byte "0"

-- "Above 2,147,483,647, however long": 2,147,483,648 stands for every such width
abbrev pub width_with : ℕ → ℕ → ℕ
width_with width b = min (width * 10 + digit_of b) 2147483648

abbrev pub too_wide : ℕ → Bool
too_wide width = ltb 2147483647 width

-- 3. "`E` before one of `CXYcxy`, or `O` before one of `HIMSUVWdeklmuwy`, is skipped."
unfoldable pub member : ℕ → List ℕ → Bool
member b [] = false
member b (x ∷ xs) = cond (eqb b x) true (member b xs)

unfoldable pub modified : Modifier → List ℕ
modified E = ascii "CXYcxy"
modified O = ascii "HIMSUVWdeklmuwy"

-- 5. the "44-entry table"
pub record Row : Type 0 where
  pub letter : ℕ
  pub spec : Spec

infix 70 ◌is◌
abbrev pub ◌is◌ : ℕ → Spec → Row
l is s = record { letter = l; spec = s }

unfoldable pub possible_specs : List Row
possible_specs =
    byte "%" is fixed Percent
    ∷ byte "A" is name WeekDayName
    ∷ byte "B" is name MonthName
    ∷ byte "C" is number YearDiv100
    ∷ byte "D" is combination CombinationDate
    ∷ byte "F" is combination CombinationIso8601
    ∷ byte "G" is number YearIso8601
    ∷ byte "H" is number Hour24hZero
    ∷ byte "I" is number Hour12hZero
    ∷ byte "L" is fraction MilliSecond
    ∷ byte "M" is number Minute
    ∷ byte "N" is fraction FractionalSecond
    ∷ byte "P" is name MeridianLower
    ∷ byte "R" is combination CombinationHourMinute24h
    ∷ byte "S" is number Second
    ∷ byte "T" is combination CombinationTime24h
    ∷ byte "U" is number WeekNumberFromSunday
    ∷ byte "V" is number WeekNumberIso8601
    ∷ byte "W" is number WeekNumberFromMonday
    ∷ byte "X" is combination CombinationTime24h
    ∷ byte "Y" is number Year4Digits
    ∷ byte "Z" is TimeZoneName
    ∷ byte "a" is name WeekDayNameAbbr
    ∷ byte "b" is name MonthNameAbbr
    ∷ byte "c" is combination CombinationDateTime
    ∷ byte "d" is number MonthDayZero
    ∷ byte "e" is number MonthDaySpace
    ∷ byte "g" is number YearIso8601Rem100
    ∷ byte "h" is name MonthNameAbbr
    ∷ byte "j" is number YearDay
    ∷ byte "k" is number Hour24hSpace
    ∷ byte "l" is number Hour12hSpace
    ∷ byte "m" is number Month
    ∷ byte "n" is fixed Newline
    ∷ byte "p" is name MeridianUpper
    ∷ byte "r" is combination CombinationTime12h
    ∷ byte "s" is number SecondsSinceEpoch
    ∷ byte "t" is fixed Tabulation
    ∷ byte "u" is number WeekDayFrom1
    ∷ byte "v" is combination CombinationVmsDate
    ∷ byte "w" is number WeekDayFrom0
    ∷ byte "x" is combination CombinationDate
    ∷ byte "y" is number YearRem100
    ∷ byte "z" is offset TimeZoneOffsetHourMinute
    ∷ []

abbrev pub letters : List Row → List ℕ
letters rows = map (λ (r : Row). r.letter) rows

-- each number is above the one before it: so none stands twice
abbrev pub rising : List ℕ → Bool
rising [] = true
rising (x ∷ []) = true
rising (x ∷ (y ∷ ys)) = ltb x y && rising (y ∷ ys)

unfoldable pub look_up : ℕ → List Row → Option Spec
look_up b [] = None
look_up b (r ∷ rs) = cond (eqb b r.letter) (Some r.spec) (look_up b rs)

abbrev pub spec_of : ℕ → Option Spec
spec_of b = look_up b possible_specs

-- a directive as read
abbrev pub piece_of : Options → Option ℕ → Bool → Spec → Piece
piece_of o w skipped s = record { width = w; padding = o.padding; flags = o.flags; spec = s; skipped = skipped }

-- "Any other byte is read; if it isn't in the 44-entry table: echo, that byte included."
abbrev pub on_entry : Options → Option ℕ → Bool → Option Spec → Turn
on_entry o w skipped (Some s) = Found (piece_of o w skipped s)
on_entry o w skipped None = Echoed

-- 3 to 5: the byte after the flags and the width. "A byte of 128 or more is left unread: echo."
unfoldable pub on_letter : Options → Option ℕ → ℕ → Turn
on_letter o w b =
    cond (eqb b (byte ":")) (More (InColons o w 1))
    (cond (eqb b (byte "E")) (More (AtModifier o w E))
    (cond (eqb b (byte "O")) (More (AtModifier o w O))
    (cond (leb 128 b) Unread (on_entry o w false (spec_of b)))))

-- 4. "With one, two or three and then `z`: the offset forms below. Four or more and `z`: echo, `z` included."
unfoldable pub on_colons : Options → Option ℕ → ℕ → Turn
on_colons o w colons =
    cond (eqb colons 1) (Found (piece_of o w false (offset TimeZoneOffsetHourMinuteColon)))
    (cond (eqb colons 2) (Found (piece_of o w false (offset TimeZoneOffsetHourMinuteSecondColon)))
    (cond (eqb colons 3) (Found (piece_of o w false (offset TimeZoneOffsetColonMinimal)))
    Echoed))

-- what the byte b does after what was read so far
unfoldable pub turn : Reading → ℕ → Turn
turn (InFlags o) b = on_flag o b (cond (is_digit b) (More (InWidth o (digit_of b))) (on_letter o None b))
turn (InWidth o width) b =
    cond (is_digit b) (More (InWidth o (width_with width b))) (cond (too_wide width) Unread (on_letter o (Some width) b))
-- an `E` or `O` that is not skipped is a letter of no table entry: echo, and b is left unread
turn (AtModifier o w m) b = cond (member b (modified m)) (on_entry o w true (spec_of b)) Unread
-- "Colons without `z`: echo up to the last colon, the next byte unread." Four colons stand for more
turn (InColons o w colons) b =
    cond (eqb b (byte ":")) (More (InColons o w (min (colons + 1) 4))) (cond (eqb b (byte "z")) (on_colons o w colons) Unread)

-- whether a format that ends here ends inside the directive: "No colons: end of format is refusal 2." Else it is an echo
unfoldable pub open? : Reading → Bool
open? (InFlags o) = true
open? (InWidth o width) = not (too_wide width)
open? (AtModifier o w m) = false
open? (InColons o w colons) = false
