-- The offset from UTC (01, "Offsets").
use Rattle.std.specs.Prelude.{Bool, true, false, cond, ◌&&◌, ◌||◌, List, [], ◌∷◌, ◌++◌, ℕ, ◌+◌, ◌-◌, ◌/◌, ◌%◌, ltb, eqb, ℤ, pos, negsuc, nat_abs}
use Rattle.rules.specs.declared.Offset.{Offset}
use Rattle.rules.specs.declared.Offset.TheVariants.{TimeZoneOffsetHourMinute, TimeZoneOffsetHourMinuteColon, TimeZoneOffsetHourMinuteSecondColon, TimeZoneOffsetColonMinimal}
use Rattle.rules.specs.Ascii.{byte, ascii}
use Rattle.rules.specs.Decimal.{digits, two, Fill, zeros, spaces}
use Rattle.rules.specs.Event.{Write, put, pad}

-- "h, m, s from the absolute offset"
abbrev pub hours_of : ℤ → ℕ
hours_of offset = nat_abs offset / 3600

abbrev pub minutes_of : ℤ → ℕ
minutes_of offset = nat_abs offset / 60 % 60

abbrev pub seconds_of : ℤ → ℕ
seconds_of offset = nat_abs offset % 60

abbrev pub is_negative : ℤ → Bool
is_negative (pos n) = false
is_negative (negsuc n) = true

-- "Sign minus if the offset is negative, or if is_utc with the left flag."
abbrev pub minus : Bool → Bool → ℤ → Bool
minus left utc offset = is_negative offset || (utc && left)

-- "plus 1 if the signed hour is below 10. So every negative offset gets the extra place"
unfoldable pub extra : Bool → ℕ → ℕ
extra negative hours = cond (negative || ltb hours 10) 1 0

-- how much is written: +hh, +hhmm, +hh:mm, +hh:mm:ss
pub data Form : Type 0 where
  hh hhmm hh:mm hh:mm:ss : Form

-- "`:::z` is `::z` if s is not 0, else `:z` if m is not 0, else hours alone"
unfoldable pub form_of : Offset → ℤ → Form
form_of TimeZoneOffsetHourMinute offset = hhmm
form_of TimeZoneOffsetHourMinuteColon offset = hh:mm
form_of TimeZoneOffsetHourMinuteSecondColon offset = hh:mm:ss
form_of TimeZoneOffsetColonMinimal offset = cond (eqb (seconds_of offset) 0) (cond (eqb (minutes_of offset) 0) hh hh:mm) hh:mm:ss

-- "width minus 5 (`z`), 6 (`:z`), 9 (`::z`)", "hours alone with 3"
unfoldable pub length_of_form : Form → ℕ
length_of_form hh = 3
length_of_form hhmm = 5
length_of_form hh:mm = 6
length_of_form hh:mm:ss = 9

-- "then two-digit parts"
unfoldable pub parts_of : Form → ℤ → List ℕ
parts_of hh offset = []
parts_of hhmm offset = two (minutes_of offset)
parts_of hh:mm offset = byte ":" ∷ two (minutes_of offset)
parts_of hh:mm:ss offset = byte ":" ∷ (two (minutes_of offset) ++ (byte ":" ∷ two (seconds_of offset)))

abbrev pub sign_of : Bool → List ℕ
sign_of negative = cond negative (ascii "-") (ascii "+")

-- "Spaces come before the sign, zeros after it, then h"
unfoldable pub sign_and_pad : Fill → Bool → ℕ → List Write
sign_and_pad spaces negative count = pad (byte " ") count ∷ put (sign_of negative) ∷ []
sign_and_pad zeros negative count = put (sign_of negative) ∷ pad (byte "0") count ∷ []

-- "Pad count: width minus .., never below 0, plus 1 if the signed hour is below 10." A width that is not given is 0
unfoldable pub offset_writes : Form → Fill → ℕ → Bool → ℤ → List Write
offset_writes form fill width negative offset =
    sign_and_pad fill negative (width - length_of_form form + extra negative (hours_of offset))
    ++ (put (digits (hours_of offset) ++ parts_of form offset) ∷ [])
