-- The size of a format: the greater length of its text at two records that between them are the longest (01, "Refusal table", sizing).
use Rattle.std.specs.Prelude.{Bool, false, cond, ◌||◌, List, ℕ, zero, suc, max, ltb, length, replicate, ℤ, negsuc}
use Rattle.rules.specs.declared.Record.{Record}
use Rattle.rules.specs.Ascii.{byte}
use Rattle.rules.specs.Record.{longest_format, longest_zone, longest_buffer, record_of}
use Rattle.rules.specs.Refusal.{Report}
use Rattle.rules.specs.Event.{length_of}
use Rattle.rules.specs.Writing.{events_of}
use Rattle.rules.specs.Format.{items, events, fault}

-- a record and its zone name
pub record Stamp : Type 0 where
  pub time : Record
  pub zone : List ℕ

-- "September is longest as a name, but its number has a single digit": no month below 10 is longer than September,
-- and no other longer than December
abbrev pub september : ℕ
september = 9

abbrev pub december : ℕ
december = 12

-- longest in every field but the month, from a year, a to_int, an offset and the length of the zone name
unfoldable pub witness : ℤ → ℤ → ℤ → ℕ → ℕ → Stamp
witness year to_int offset month longest =
    record {
      time = record_of year month 28 22 59 59 0 3 200 to_int false offset;
      zone = replicate longest (byte "A");
    }

-- the least year, to_int and offset
abbrev pub longest_in : ℕ → ℕ → Stamp
longest_in = witness (negsuc 2147483647) (negsuc 9223372036854775807) (negsuc 2147483647)

abbrev pub length_at : Stamp → List ℕ → ℕ
length_at s format = length_of (events (events_of s.time s.zone) (items format))

unfoldable pub greater : Stamp → Stamp → List ℕ → ℕ
greater a b format = max (length_at a format) (length_at b format)

-- "its refusals report size 0"
abbrev pub refuses : ℕ → Report
refuses number = record { number = number; bytes = 0 }

abbrev pub needing : ℕ → Report
needing n = record { number = 0; bytes = n }

-- "an input is longer than above"
abbrev pub is_too_long : List ℕ → ℕ → Bool
is_too_long format longest = ltb longest_format (length format) || ltb longest_zone longest

-- "an in-range record needs over 65,536 bytes"
abbrev pub has_no_buffer : ℕ → Bool
has_no_buffer n = ltb longest_buffer n

-- a fault refuses, whatever follows; 0 is none
abbrev pub unless : ℕ → Report → Report
unless zero rest = rest
unless (suc n) rest = refuses (suc n)

-- "Sizing: 5, then 2 for any format that ends inside a directive, then 6." n: the length of its longest text
unfoldable pub report_of : ℕ → List ℕ → ℕ → Report
report_of n format longest =
    cond (is_too_long format longest) (refuses 5)
    (unless (fault (items format))
    (cond (has_no_buffer n) (refuses 6)
    (needing n)))

unfoldable pub size_by : (ℕ → Stamp) → (ℕ → Stamp) → List ℕ → ℕ → Report
size_by a b format longest = report_of (greater (a longest) (b longest) format) format longest

unfoldable pub size_of : List ℕ → ℕ → Report
size_of = size_by (longest_in september) (longest_in december)
