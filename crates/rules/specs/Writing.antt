-- Writing a directive (01, "Writing a directive"): what it pads before the check, the fields that it checks, what it writes.
use Rattle.std.specs.Prelude.{Bool, true, false, cond, ℕ, ◌+◌, ◌-◌, ◌/◌, ◌%◌, ◌^◌, min, eqb, length, ℤ, pos, negsuc, Option}
use Rattle.std.specs.Option.{unwrap_or}
use mathlib.Core.List.{List, [], ◌∷◌, ◌++◌, map, flatten}
use Rattle.rules.specs.declared.Record.{Record}
use Rattle.rules.specs.declared.Flags.{Flags}
use Rattle.rules.specs.declared.Padding.{Padding}
use Rattle.rules.specs.declared.Padding.TheVariants.{Left, Spaces, Zeros}
use Rattle.rules.specs.declared.Number.{Number}
use Rattle.rules.specs.declared.Number.TheVariants.{Year4Digits, YearDiv100, YearRem100, Month, MonthDayZero, MonthDaySpace, YearDay, Hour24hZero, Hour24hSpace, Hour12hZero, Hour12hSpace, Minute, Second, WeekDayFrom1, WeekDayFrom0, YearIso8601, YearIso8601Rem100, WeekNumberIso8601, WeekNumberFromSunday, WeekNumberFromMonday, SecondsSinceEpoch}
use Rattle.rules.specs.declared.Name.{Name}
use Rattle.rules.specs.declared.Name.TheVariants.{MonthName, MonthNameAbbr, MeridianLower, MeridianUpper, WeekDayName, WeekDayNameAbbr}
use Rattle.rules.specs.declared.Fraction.{Fraction}
use Rattle.rules.specs.declared.Fraction.TheVariants.{MilliSecond, FractionalSecond}
use Rattle.rules.specs.declared.Fixed.{Fixed}
use Rattle.rules.specs.declared.Fixed.TheVariants.{Newline, Tabulation, Percent}
use Rattle.rules.specs.declared.Combination.{Combination}
use Rattle.rules.specs.declared.Combination.TheVariants.{CombinationDateTime, CombinationDate, CombinationIso8601, CombinationVmsDate, CombinationTime12h, CombinationHourMinute24h, CombinationTime24h}
use Rattle.rules.specs.declared.Spec.{Spec}
use Rattle.rules.specs.declared.Spec.TheVariants.{Number as number, Name as name, Fraction as fraction, Offset as offset, TimeZoneName, Fixed as fixed, Combination as combination}
use Rattle.rules.specs.declared.Piece.{Piece}
use Rattle.rules.specs.Ascii.{byte, ascii}
use Rattle.rules.specs.Record.{Field, month, day, hour, minute, second, nanoseconds, weekday, day_of_year, zone_name, all_ok}
use Rattle.rules.specs.Event.{Write, put, pad, Event, write, judged}
use Rattle.rules.specs.Decimal.{places, two, decimal_text, Fill, zeros, spaces, fill_byte, filled, floor_div, floor_mod}
use Rattle.rules.specs.Name.{day_name, month_name, abbreviated, Case, as_it_is, raised, in_case, before12, name_of, case_of, zone_case}
use Rattle.rules.specs.Week.{week_number, iso_week}
use Rattle.rules.specs.Offset.{minus, form_of, offset_writes}

-- the width that is given, or else a default
abbrev pub width_or : Option ℕ → ℕ → ℕ
width_or w default = unwrap_or w default

-- ## Numbers

-- "`Y` and `G` 4, or 5 for a negative year"
abbrev pub year_width : ℤ → ℕ
year_width (pos n) = 4
year_width (negsuc n) = 5

-- "hour mod 12, with 0 read as 12"
abbrev pub or_if_zero : ℕ → ℕ → ℕ
or_if_zero other n = cond (eqb n 0) other n

abbrev pub hour12 : ℕ → ℕ
hour12 h = or_if_zero 12 (h % 12)

unfoldable pub value_of : Number → Record → ℤ
value_of Year4Digits r = r.year
value_of YearDiv100 r = floor_div r.year 100
value_of YearRem100 r = pos (floor_mod r.year 100)
value_of Month r = pos r.month
value_of MonthDayZero r = pos r.day
value_of MonthDaySpace r = pos r.day
value_of YearDay r = pos r.day_of_year
value_of Hour24hZero r = pos r.hour
value_of Hour24hSpace r = pos r.hour
value_of Hour12hZero r = pos (hour12 r.hour)
value_of Hour12hSpace r = pos (hour12 r.hour)
value_of Minute r = pos r.minute
value_of Second r = pos r.second
value_of WeekDayFrom1 r = pos (or_if_zero 7 r.day_of_week)
value_of WeekDayFrom0 r = pos r.day_of_week
value_of YearIso8601 r = (iso_week r.year r.day_of_week r.day_of_year).year
value_of YearIso8601Rem100 r = pos (floor_mod (iso_week r.year r.day_of_week r.day_of_year).year 100)
value_of WeekNumberIso8601 r = pos (iso_week r.year r.day_of_week r.day_of_year).week
value_of WeekNumberFromSunday r = pos (week_number 0 r.day_of_week r.day_of_year)
value_of WeekNumberFromMonday r = pos (week_number 1 r.day_of_week r.day_of_year)
value_of SecondsSinceEpoch r = r.to_int

-- "default widths are 2; `Y` and `G` 4, or 5 for a negative year; `j` 3; `u`, `w`, `s` 1." The year is the value itself
unfoldable pub default_width : Number → ℤ → ℕ
default_width Year4Digits value = year_width value
default_width YearDiv100 value = 2
default_width YearRem100 value = 2
default_width Month value = 2
default_width MonthDayZero value = 2
default_width MonthDaySpace value = 2
default_width YearDay value = 3
default_width Hour24hZero value = 2
default_width Hour24hSpace value = 2
default_width Hour12hZero value = 2
default_width Hour12hSpace value = 2
default_width Minute value = 2
default_width Second value = 2
default_width WeekDayFrom1 value = 1
default_width WeekDayFrom0 value = 1
default_width YearIso8601 value = year_width value
default_width YearIso8601Rem100 value = 2
default_width WeekNumberIso8601 value = 2
default_width WeekNumberFromSunday value = 2
default_width WeekNumberFromMonday value = 2
default_width SecondsSinceEpoch value = 1

-- "Otherwise the fill is zero, or space under padding Spaces"
abbrev pub zeros_unless : Padding → Fill
zeros_unless Left = zeros
zeros_unless Spaces = spaces
zeros_unless Zeros = zeros

-- "(for `e`, `k`, `l`: space, or zero under padding Zeros)"
abbrev pub spaces_unless : Padding → Fill
spaces_unless Left = spaces
spaces_unless Spaces = spaces
spaces_unless Zeros = zeros

unfoldable pub fill_of : Number → Padding → Fill
fill_of Year4Digits p = zeros_unless p
fill_of YearDiv100 p = zeros_unless p
fill_of YearRem100 p = zeros_unless p
fill_of Month p = zeros_unless p
fill_of MonthDayZero p = zeros_unless p
fill_of MonthDaySpace p = spaces_unless p
fill_of YearDay p = zeros_unless p
fill_of Hour24hZero p = zeros_unless p
fill_of Hour24hSpace p = spaces_unless p
fill_of Hour12hZero p = zeros_unless p
fill_of Hour12hSpace p = spaces_unless p
fill_of Minute p = zeros_unless p
fill_of Second p = zeros_unless p
fill_of WeekDayFrom1 p = zeros_unless p
fill_of WeekDayFrom0 p = zeros_unless p
fill_of YearIso8601 p = zeros_unless p
fill_of YearIso8601Rem100 p = zeros_unless p
fill_of WeekNumberIso8601 p = zeros_unless p
fill_of WeekNumberFromSunday p = zeros_unless p
fill_of WeekNumberFromMonday p = zeros_unless p
fill_of SecondsSinceEpoch p = zeros_unless p

-- "Left flag: plain decimal." Else: "Of a width above 65,535, the excess is padded first by `pad`, before any sign."
unfoldable pub number_writes : Bool → Fill → ℕ → ℤ → List Write
number_writes true fill width value = put (decimal_text value) ∷ []
number_writes false fill width value = pad (fill_byte fill) (width - 65535) ∷ put (filled fill (min width 65535) value) ∷ []

-- ## Names and single bytes

-- "zeros under padding Zeros, else spaces"
abbrev pub pad_byte : Padding → ℕ
pad_byte Left = byte " "
pad_byte Spaces = byte " "
pad_byte Zeros = byte "0"

-- "`pad` to the width", from a text of so many bytes
abbrev pub pad_to : Piece → ℕ → Write
pad_to p n = pad (pad_byte p.padding) (width_or p.width 0 - n)

-- "unless the left flag is set, `pad` to the width"
unfoldable pub name_writes : Piece → List ℕ → List Write
name_writes p text = cond p.flags.left [] (pad_to p (length text) ∷ []) ++ (put text ∷ [])

unfoldable pub fixed_byte : Fixed → ℕ
fixed_byte Newline = byte "\n"
fixed_byte Tabulation = byte "\t"
fixed_byte Percent = byte "%"

-- "an empty name writes nothing, width or not; else padded as a name"
unfoldable pub zone_writes : Piece → List ℕ → List Write
zone_writes p [] = []
zone_writes p (b ∷ zone) = name_writes p (in_case (zone_case p.flags) (b ∷ zone))

-- ## Fractions of a second

-- "`L`, `N`: default 3 and 9."
unfoldable pub fraction_digits : Fraction → ℕ
fraction_digits MilliSecond = 3
fraction_digits FractionalSecond = 9

-- "Up to width 9: nanoseconds divided by 10^(9−w), w digits. Above: nine digits, then w−9 zeros by `pad`."
unfoldable pub fraction_writes : ℕ → ℕ → List Write
fraction_writes width nanos = put (places (min width 9) (nanos / 10 ^ (9 - width))) ∷ pad (byte "0") (width - 9) ∷ []

-- ## Combinations

-- "`F` and `c` use year width 4 or 5 as `Y`"; "`v` .. year width 4 for negatives too"
abbrev pub year_text : ℤ → List ℕ
year_text year = filled zeros (year_width year) year

abbrev pub vms_year : ℤ → List ℕ
vms_year year = filled zeros 4 year

-- "the length of their whole text (it depends on the year alone)"
unfoldable pub combination_length : Combination → ℤ → ℕ
combination_length CombinationDateTime year = length (ascii "www mmm dd HH:MM:SS ") + length (year_text year)
combination_length CombinationDate year = length (ascii "mm/dd/yy")
combination_length CombinationIso8601 year = length (year_text year) + length (ascii "-mm-dd")
combination_length CombinationVmsDate year = length (ascii "dd-mmm-") + length (vms_year year)
combination_length CombinationTime12h year = length (ascii "HH:MM:SS AM")
combination_length CombinationHourMinute24h year = length (ascii "HH:MM")
combination_length CombinationTime24h year = length (ascii "HH:MM:SS")

-- "day space-padded"
abbrev pub day_text : ℕ → List ℕ
day_text d = filled spaces 2 (pos d)

-- "only `^` raises its names"
abbrev pub raised_by_upper : Flags → Case
raised_by_upper f = cond f.upper raised as_it_is

unfoldable pub combination_text : Combination → Flags → Record → List ℕ
combination_text CombinationDateTime f r =
    flatten
    (in_case (raised_by_upper f) (abbreviated (day_name r.day_of_week)) ∷ ascii " "
    ∷ in_case (raised_by_upper f) (abbreviated (month_name r.month)) ∷ ascii " "
    ∷ day_text r.day ∷ ascii " "
    ∷ two r.hour ∷ ascii ":" ∷ two r.minute ∷ ascii ":" ∷ two r.second ∷ ascii " "
    ∷ year_text r.year ∷ [])
combination_text CombinationDate f r =
    flatten (two r.month ∷ ascii "/" ∷ two r.day ∷ ascii "/" ∷ two (floor_mod r.year 100) ∷ [])
combination_text CombinationIso8601 f r =
    flatten (year_text r.year ∷ ascii "-" ∷ two r.month ∷ ascii "-" ∷ two r.day ∷ [])
combination_text CombinationVmsDate f r =
    flatten (day_text r.day ∷ ascii "-" ∷ in_case raised (abbreviated (month_name r.month)) ∷ ascii "-" ∷ vms_year r.year ∷ [])
combination_text CombinationTime12h f r =
    flatten
    (two (hour12 r.hour) ∷ ascii ":" ∷ two r.minute ∷ ascii ":" ∷ two r.second ∷ ascii " "
    ∷ before12 r.hour (ascii "AM") (ascii "PM") ∷ [])
combination_text CombinationHourMinute24h f r = flatten (two r.hour ∷ ascii ":" ∷ two r.minute ∷ [])
combination_text CombinationTime24h f r =
    flatten (two r.hour ∷ ascii ":" ∷ two r.minute ∷ ascii ":" ∷ two r.second ∷ [])

-- ## Which fields a directive checks

unfoldable pub number_fields : Number → List Field
number_fields Year4Digits = []
number_fields YearDiv100 = []
number_fields YearRem100 = []
number_fields Month = month ∷ []
number_fields MonthDayZero = day ∷ []
number_fields MonthDaySpace = day ∷ []
number_fields YearDay = day_of_year ∷ []
number_fields Hour24hZero = hour ∷ []
number_fields Hour24hSpace = hour ∷ []
number_fields Hour12hZero = hour ∷ []
number_fields Hour12hSpace = hour ∷ []
number_fields Minute = minute ∷ []
number_fields Second = second ∷ []
number_fields WeekDayFrom1 = weekday ∷ []
number_fields WeekDayFrom0 = weekday ∷ []
number_fields YearIso8601 = weekday ∷ day_of_year ∷ []
number_fields YearIso8601Rem100 = weekday ∷ day_of_year ∷ []
number_fields WeekNumberIso8601 = weekday ∷ day_of_year ∷ []
number_fields WeekNumberFromSunday = weekday ∷ day_of_year ∷ []
number_fields WeekNumberFromMonday = weekday ∷ day_of_year ∷ []
number_fields SecondsSinceEpoch = []

unfoldable pub name_fields : Name → List Field
name_fields MonthName = month ∷ []
name_fields MonthNameAbbr = month ∷ []
name_fields MeridianLower = hour ∷ []
name_fields MeridianUpper = hour ∷ []
name_fields WeekDayName = weekday ∷ []
name_fields WeekDayNameAbbr = weekday ∷ []

unfoldable pub combination_fields : Combination → List Field
combination_fields CombinationDateTime = weekday ∷ month ∷ day ∷ hour ∷ minute ∷ second ∷ []
combination_fields CombinationDate = month ∷ day ∷ []
combination_fields CombinationIso8601 = month ∷ day ∷ []
combination_fields CombinationVmsDate = month ∷ day ∷ []
combination_fields CombinationTime12h = hour ∷ minute ∷ second ∷ []
combination_fields CombinationHourMinute24h = hour ∷ minute ∷ []
combination_fields CombinationTime24h = hour ∷ minute ∷ second ∷ []

unfoldable pub fields_of : Spec → List Field
fields_of (number n) = number_fields n
fields_of (name n) = name_fields n
fields_of (fraction f) = nanoseconds ∷ []
fields_of (offset o) = []
fields_of TimeZoneName = zone_name ∷ []
fields_of (fixed f) = []
fields_of (combination c) = combination_fields c

-- ## The events of a directive

-- "Combinations .. call `write_padding` first, .. even with the left flag, then check their fields, then write."
unfoldable pub lead_of : Spec → Piece → ℤ → List Write
lead_of (number n) p year = []
lead_of (name n) p year = []
lead_of (fraction f) p year = []
lead_of (offset o) p year = []
lead_of TimeZoneName p year = []
lead_of (fixed f) p year = []
lead_of (combination c) p year = pad_to p (combination_length c year) ∷ []

-- "All other directives check before they write."
unfoldable pub body_of : Spec → Piece → Record → List ℕ → List Write
body_of (number n) p r zone =
    number_writes p.flags.left (fill_of n p.padding) (width_or p.width (default_width n (value_of n r))) (value_of n r)
body_of (name n) p r zone = name_writes p (in_case (case_of n p.flags) (name_of n r))
body_of (fraction f) p r zone = fraction_writes (width_or p.width (fraction_digits f)) r.nanoseconds
body_of (offset o) p r zone =
    offset_writes (form_of o r.utc_offset) (zeros_unless p.padding) (width_or p.width 0)
    (minus p.flags.left r.is_utc r.utc_offset) r.utc_offset
body_of TimeZoneName p r zone = zone_writes p zone
body_of (fixed f) p r zone = name_writes p (fixed_byte f ∷ [])
body_of (combination c) p r zone = put (combination_text c p.flags r) ∷ []

-- what the check of a directive comes to: 0, or the refusal's number. InvalidTime, 1: "a field the directive reads is out of range"
unfoldable pub verdict : Bool → ℕ
verdict in_range = cond in_range 0 1

-- "A field that no directive reads isn't checked."
unfoldable pub verdict_of : Spec → Record → List ℕ → ℕ
verdict_of s r zone = verdict (all_ok (fields_of s) r zone)

unfoldable pub spec_events : Spec → Piece → Record → List ℕ → List Event
spec_events s p r zone = map write (lead_of s p r.year) ++ (judged (verdict_of s r zone) ∷ map write (body_of s p r zone))

unfoldable pub events_of : Record → List ℕ → Piece → List Event
events_of r zone p = spec_events p.spec p r zone
