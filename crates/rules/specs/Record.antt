-- The record, the longest inputs and the ranges (01, "What is bought" and "Writing a directive").
use Rattle.std.specs.Prelude.{Bool, true, ◌&&◌, List, [], ◌∷◌, ℕ, ◌<◌, T, leb, ℤ}
use Rattle.std.specs.Int.Signed.{mag}
use Rattle.rules.specs.declared.Record.{Record}
use Rattle.rules.specs.Calendar.{days_in}

-- "Longest inputs: format 4,096 bytes, zone 64, buffer 65,536."
abbrev pub longest_format : ℕ
longest_format = 4096

abbrev pub longest_zone : ℕ
longest_zone = 64

abbrev pub longest_buffer : ℕ
longest_buffer = 65536

-- the numbers of an i32 and of an i64. mag z is n of n and of −(n + 1)
abbrev pub InI32 : ℤ → Type 0
InI32 z = mag z < 2147483648

abbrev pub InI64 : ℤ → Type 0
InI64 z = mag z < 9223372036854775808

-- a record by its fields, in their order
abbrev pub record_of : ℤ → ℕ → ℕ → ℕ → ℕ → ℕ → ℕ → ℕ → ℕ → ℤ → Bool → ℤ → Record
record_of year month day hour minute second nanoseconds weekday day_of_year to_int utc offset =
    record {
      year = year;
      month = month;
      day = day;
      hour = hour;
      minute = minute;
      second = second;
      nanoseconds = nanoseconds;
      day_of_week = weekday;
      day_of_year = day_of_year;
      to_int = to_int;
      is_utc = utc;
      utc_offset = offset;
    }

-- the fields that have a range. "Year, to_int, offset: any."
pub data Field : Type 0 where
  month day hour minute second nanoseconds weekday day_of_year zone_name : Field

abbrev pub within : ℕ → ℕ → ℕ → Bool
within least most n = leb least n && leb n most

abbrev pub each_byte : (ℕ → Bool) → List ℕ → Bool
each_byte ok [] = true
each_byte ok (b ∷ bytes) = ok b && each_byte ok bytes

-- "A zone byte must now be 32 to 126" (02, request 5)
abbrev pub zone_byte_ok : ℕ → Bool
zone_byte_ok b = within 32 126 b

unfoldable pub zone_ok : List ℕ → Bool
zone_ok zone = each_byte zone_byte_ok zone

-- "day of year 1..366"; "the day-of-year check takes the year too and answers InvalidTime for 366 in a common year" (02, request 2)
abbrev pub last_day_of : ℤ → ℕ
last_day_of year = days_in year

-- "month 1..12, day 1..31, hour 0..23, minute 0..59, second 0..60, nanoseconds to 999,999,999, weekday 0..6, day of year 1..366"
unfoldable pub ok_field : Field → Record → List ℕ → Bool
ok_field month r zone = within 1 12 r.month
ok_field day r zone = within 1 31 r.day
ok_field hour r zone = leb r.hour 23
ok_field minute r zone = leb r.minute 59
ok_field second r zone = leb r.second 60
ok_field nanoseconds r zone = leb r.nanoseconds 999999999
ok_field weekday r zone = leb r.day_of_week 6
ok_field day_of_year r zone = within 1 (last_day_of r.year) r.day_of_year
ok_field zone_name r zone = zone_ok zone

unfoldable pub all_ok : List Field → Record → List ℕ → Bool
all_ok [] r zone = true
all_ok (f ∷ fs) r zone = ok_field f r zone && all_ok fs r zone

-- all fields are in range
abbrev pub InRange : Record → List ℕ → Type 0
InRange r zone = (f : Field) → T (ok_field f r zone)
