-- Compiled formats (02, request 6): "a format read once and stored, then run many times". The stored bytes, which of them are taken, and what
-- running them gives.
use Rattle.std.specs.Prelude.{◌≡◌, Bool, true, false, cond, ◌&&◌, List, [], ◌∷◌, ◌++◌, ℕ, zero, suc, ◌+◌, ◌-◌, ◌*◌, ◌/◌, ◌%◌, ltb, leb, eqb, length, get_or, take, drop, Option, Some, None}
use Rattle.rules.specs.declared.Record.{Record}
use Rattle.rules.specs.declared.Flags.{Flags}
use Rattle.rules.specs.declared.Padding.{Padding}
use Rattle.rules.specs.declared.Padding.TheVariants.{Left, Spaces, Zeros}
use Rattle.rules.specs.declared.Number.TheVariants.{Year4Digits, YearDiv100, YearRem100, Month, MonthDayZero, MonthDaySpace, YearDay, Hour24hZero, Hour24hSpace, Hour12hZero, Hour12hSpace, Minute, Second, WeekDayFrom1, WeekDayFrom0, YearIso8601, YearIso8601Rem100, WeekNumberIso8601, WeekNumberFromSunday, WeekNumberFromMonday, SecondsSinceEpoch}
use Rattle.rules.specs.declared.Name.TheVariants.{MonthName, MonthNameAbbr, MeridianLower, MeridianUpper, WeekDayName, WeekDayNameAbbr}
use Rattle.rules.specs.declared.Fraction.TheVariants.{MilliSecond, FractionalSecond}
use Rattle.rules.specs.declared.Offset.TheVariants.{TimeZoneOffsetHourMinute, TimeZoneOffsetHourMinuteColon, TimeZoneOffsetHourMinuteSecondColon, TimeZoneOffsetColonMinimal}
use Rattle.rules.specs.declared.Fixed.TheVariants.{Newline, Tabulation, Percent}
use Rattle.rules.specs.declared.Combination.TheVariants.{CombinationDateTime, CombinationDate, CombinationIso8601, CombinationVmsDate, CombinationTime12h, CombinationHourMinute24h, CombinationTime24h}
use Rattle.rules.specs.declared.Spec.{Spec}
use Rattle.rules.specs.declared.Spec.TheVariants.{Number as number, Name as name, Fraction as fraction, Offset as offset, TimeZoneName, Fixed as fixed, Combination as combination}
use Rattle.rules.specs.declared.Piece.{Piece}
use Rattle.rules.specs.Ascii.{byte}
use Rattle.rules.specs.Record.{longest_format, longest_zone, longest_buffer}
use Rattle.rules.specs.Event.{put, Event, write, check, judged, Outcome, run}
use Rattle.rules.specs.Reading.{no_flags, spec_of}
use Rattle.rules.specs.Writing.{events_of}
use Rattle.rules.specs.Format.{Item, literal, echo, directive, cut, items, fault, limit_of}

-- ## The parts of a format

-- bytes that stand for themselves; or a directive
pub data Part : Type 0 where
  text : List ℕ → Part
  piece : Piece → Part

-- an `E` or `O` that was skipped is not stored
abbrev pub unskipped : Piece → Piece
unskipped p = record { width = p.width; padding = p.padding; flags = p.flags; spec = p.spec; skipped = false }

-- neighbouring literal bytes and echoes are one part
abbrev pub join_text : List ℕ → List Part → List Part
join_text bytes [] = text bytes ∷ []
join_text bytes (text more ∷ ps) = text (bytes ++ more) ∷ ps
join_text bytes (piece p ∷ ps) = text bytes ∷ piece p ∷ ps

abbrev pub add_item : Item → List Part → List Part
add_item (literal b) ps = join_text (b ∷ []) ps
add_item (echo bytes) ps = join_text bytes ps
add_item (directive p) ps = piece (unskipped p) ∷ ps
add_item cut ps = ps

unfoldable pub parts : List Item → List Part
parts [] = []
parts (i ∷ is) = add_item i (parts is)

-- the events of parts, for given events of a directive
module _ (events_for : Piece → List Event) where
  unfoldable pub part_events : List Part → List Event
  part_events [] = []
  part_events (text bytes ∷ ps) = write (put bytes) ∷ part_events ps
  part_events (piece p ∷ ps) = events_for p ++ part_events ps

-- ## Numbers, "little-endian"

abbrev pub two_bytes : ℕ → List ℕ
two_bytes n = n % 256 ∷ n / 256 % 256 ∷ []

abbrev pub two_of : List ℕ → ℕ
two_of s = get_or s 0 0 + get_or s 1 0 * 256

abbrev pub four_bytes : ℕ → List ℕ
four_bytes n = n % 256 ∷ n / 256 % 256 ∷ n / 256 / 256 % 256 ∷ n / 256 / 256 / 256 % 256 ∷ []

abbrev pub four_of : List ℕ → ℕ
four_of s = get_or s 0 0 + get_or s 1 0 * 256 + get_or s 2 0 * 65536 + get_or s 3 0 * 16777216

-- ## "directives of 8 bytes (table letter or offset form, padding, flags, width present, four-byte width)"

-- the first letter of the table that means this; or 1, 2, 3 for `:z`, `::z`, `:::z`
unfoldable pub code_of : Spec → ℕ
code_of (fixed Percent) = byte "%"
code_of (name WeekDayName) = byte "A"
code_of (name MonthName) = byte "B"
code_of (number YearDiv100) = byte "C"
code_of (combination CombinationDate) = byte "D"
code_of (combination CombinationIso8601) = byte "F"
code_of (number YearIso8601) = byte "G"
code_of (number Hour24hZero) = byte "H"
code_of (number Hour12hZero) = byte "I"
code_of (fraction MilliSecond) = byte "L"
code_of (number Minute) = byte "M"
code_of (fraction FractionalSecond) = byte "N"
code_of (name MeridianLower) = byte "P"
code_of (combination CombinationHourMinute24h) = byte "R"
code_of (number Second) = byte "S"
code_of (combination CombinationTime24h) = byte "T"
code_of (number WeekNumberFromSunday) = byte "U"
code_of (number WeekNumberIso8601) = byte "V"
code_of (number WeekNumberFromMonday) = byte "W"
code_of (number Year4Digits) = byte "Y"
code_of TimeZoneName = byte "Z"
code_of (name WeekDayNameAbbr) = byte "a"
code_of (name MonthNameAbbr) = byte "b"
code_of (combination CombinationDateTime) = byte "c"
code_of (number MonthDayZero) = byte "d"
code_of (number MonthDaySpace) = byte "e"
code_of (number YearIso8601Rem100) = byte "g"
code_of (number YearDay) = byte "j"
code_of (number Hour24hSpace) = byte "k"
code_of (number Hour12hSpace) = byte "l"
code_of (number Month) = byte "m"
code_of (fixed Newline) = byte "n"
code_of (name MeridianUpper) = byte "p"
code_of (combination CombinationTime12h) = byte "r"
code_of (number SecondsSinceEpoch) = byte "s"
code_of (fixed Tabulation) = byte "t"
code_of (number WeekDayFrom1) = byte "u"
code_of (combination CombinationVmsDate) = byte "v"
code_of (number WeekDayFrom0) = byte "w"
code_of (number YearRem100) = byte "y"
code_of (offset TimeZoneOffsetHourMinute) = byte "z"
code_of (offset TimeZoneOffsetHourMinuteColon) = 1
code_of (offset TimeZoneOffsetHourMinuteSecondColon) = 2
code_of (offset TimeZoneOffsetColonMinimal) = 3

unfoldable pub coded_spec : ℕ → Option Spec
coded_spec code =
    cond (eqb code 1) (Some (offset TimeZoneOffsetHourMinuteColon))
    (cond (eqb code 2) (Some (offset TimeZoneOffsetHourMinuteSecondColon))
    (cond (eqb code 3) (Some (offset TimeZoneOffsetColonMinimal))
    (spec_of code)))

abbrev pub padding_code : Padding → ℕ
padding_code Left = 0
padding_code Spaces = 1
padding_code Zeros = 2

abbrev pub bit : Bool → ℕ
bit true = 1
bit false = 0

-- left 1, change 2, upper 4, added
abbrev pub flags_code : Flags → ℕ
flags_code f = bit f.left + (bit f.change * 2 + bit f.upper * 4)

abbrev pub present : Option ℕ → ℕ
present None = 0
present (Some w) = 1

-- 0 where there is no width
abbrev pub width_value : Option ℕ → ℕ
width_value None = 0
width_value (Some w) = w

unfoldable pub entry_bytes : Piece → List ℕ
entry_bytes p = code_of p.spec ∷ padding_code p.padding ∷ flags_code p.flags ∷ present p.width ∷ four_bytes (width_value p.width)

-- back from 8 bytes. Bytes that are not taken have some meaning here too, which nothing uses
abbrev pub spec_from : Option Spec → Spec
spec_from (Some s) = s
spec_from None = fixed Percent

abbrev pub padding_from : ℕ → Padding
padding_from code = cond (eqb code 0) Left (cond (eqb code 1) Spaces Zeros)

abbrev pub flags_from : ℕ → Flags
flags_from code = record { left = eqb (code % 2) 1; change = eqb (code / 2 % 2) 1; upper = eqb (code / 4) 1 }

abbrev pub width_from : ℕ → ℕ → Option ℕ
width_from there value = cond (eqb there 0) None (Some value)

unfoldable pub entry_of : List ℕ → Piece
entry_of s =
    record {
      width = width_from (get_or s 3 0) (four_of (drop 4 s));
      padding = padding_from (get_or s 1 0);
      flags = flags_from (get_or s 2 0);
      spec = spec_from (coded_spec (get_or s 0 0));
      skipped = false;
    }

-- "a directive is one no parse gives": no letter of the table and no form, padding above 2, flags above 7, present above 1, a width of 0 or above
-- 2,147,483,647 where it is present, a width that isn't 0 where not
abbrev pub is_known : Option Spec → Bool
is_known (Some s) = true
is_known None = false

abbrev pub width_taken : ℕ → ℕ → Bool
width_taken there value = cond (eqb there 0) (eqb value 0) (eqb there 1 && (leb 1 value && leb value 2147483647))

unfoldable pub entry_taken : List ℕ → Bool
entry_taken s =
    is_known (coded_spec (get_or s 0 0)) && (leb (get_or s 1 0) 2 && (leb (get_or s 2 0) 7 && width_taken (get_or s 3 0) (four_of (drop 4 s))))

-- the first n of a section, each whether or not a step uses it
unfoldable pub entries_of : ℕ → List ℕ → List Piece
entries_of zero s = []
entries_of (suc n) s = entry_of s ∷ entries_of n (drop 8 s)

unfoldable pub entries_taken : ℕ → List ℕ → Bool
entries_taken zero s = true
entries_taken (suc n) s = entry_taken s && entries_taken n (drop 8 s)

-- ## "the order, 3 bytes a step (which section; index, or length of the next literal bytes)"

-- section 0 is the literal bytes, and 1 the directives, counted from 0. n steps over so many directives, with so many literal bytes left: "a step
-- names no section or passes it"
unfoldable pub steps_taken : ℕ → List ℕ → ℕ → ℕ → Bool
steps_taken zero s directives left = true
steps_taken (suc n) s directives left =
    cond (eqb (get_or s 0 0) 0) (leb (two_of (drop 1 s)) left && steps_taken n (drop 3 s) directives (left - two_of (drop 1 s)))
    (eqb (get_or s 0 0) 1 && (ltb (two_of (drop 1 s)) directives && steps_taken n (drop 3 s) directives left))

-- where an index passes its section
abbrev pub no_piece : Piece
no_piece = record { width = None; padding = Left; flags = no_flags; spec = fixed Percent; skipped = false }

-- the parts that n steps name
unfoldable pub steps_of : ℕ → List ℕ → List Piece → List ℕ → List Part
steps_of zero s pieces bytes = []
steps_of (suc n) s pieces bytes =
    cond (eqb (get_or s 0 0) 0) (text (take (two_of (drop 1 s)) bytes) ∷ steps_of n (drop 3 s) pieces (drop (two_of (drop 1 s)) bytes))
    (piece (get_or pieces (two_of (drop 1 s)) no_piece) ∷ steps_of n (drop 3 s) pieces bytes)

-- ## "three sections in a fixed order, each after its two-byte little-endian count of entries"

-- how many literal bytes, directives and steps; the literal bytes; and the bytes from the first directive and from the first step on
pub record Sections : Type 0 where
  pub literals : ℕ
  pub directives : ℕ
  pub steps : ℕ
  pub literal_bytes : List ℕ
  pub from_directives : List ℕ
  pub from_steps : List ℕ

-- by the first two counts
abbrev pub sections_by : ℕ → ℕ → List ℕ → Sections
sections_by literals directives s =
    record {
      literals = literals;
      directives = directives;
      steps = two_of (drop (directives * 8) (drop 2 (drop literals (drop 2 s))));
      literal_bytes = take literals (drop 2 s);
      from_directives = drop 2 (drop literals (drop 2 s));
      from_steps = drop 2 (drop (directives * 8) (drop 2 (drop literals (drop 2 s))));
    }

unfoldable pub sections : List ℕ → Sections
sections s = sections_by (two_of s) (two_of (drop (two_of s) (drop 2 s))) s

-- "counts and bytes disagree, a step names no section or passes it, or a directive is one no parse gives": none of these
abbrev pub sections_taken : ℕ → Sections → Bool
sections_taken n x =
    eqb n (6 + x.literals + x.directives * 8 + x.steps * 3)
    && (entries_taken x.directives x.from_directives && steps_taken x.steps x.from_steps x.directives x.literals)

unfoldable pub well_stored : List ℕ → Bool
well_stored s = sections_taken (length s) (sections s)

abbrev pub parts_in : Sections → List Part
parts_in x = steps_of x.steps x.from_steps (entries_of x.directives x.from_directives) x.literal_bytes

unfoldable pub loaded : List ℕ → List Part
loaded s = parts_in (sections s)

-- ## What is stored

unfoldable pub literals_in : List Part → List ℕ
literals_in [] = []
literals_in (text bytes ∷ ps) = bytes ++ literals_in ps
literals_in (piece p ∷ ps) = literals_in ps

-- each directive has an entry of its own, in order
unfoldable pub pieces_in : List Part → List Piece
pieces_in [] = []
pieces_in (text bytes ∷ ps) = pieces_in ps
pieces_in (piece p ∷ ps) = p ∷ pieces_in ps

unfoldable pub entries_bytes : List Piece → List ℕ
entries_bytes [] = []
entries_bytes (p ∷ ps) = entry_bytes p ++ entries_bytes ps

-- the next directive has index i
unfoldable pub steps_bytes : ℕ → List Part → List ℕ
steps_bytes i [] = []
steps_bytes i (text bytes ∷ ps) = 0 ∷ (two_bytes (length bytes) ++ steps_bytes i ps)
steps_bytes i (piece p ∷ ps) = 1 ∷ (two_bytes i ++ steps_bytes (suc i) ps)

unfoldable pub stored : List Part → List ℕ
stored ps =
    two_bytes (length (literals_in ps)) ++ (literals_in ps
    ++ (two_bytes (length (pieces_in ps)) ++ (entries_bytes (pieces_in ps)
    ++ (two_bytes (length ps) ++ steps_bytes 0 ps))))

-- ## The two entries

-- 5; then the format's fault, "before 4"; then "too short a buffer for the stored form is 4, nothing written"
unfoldable pub compile_events : List ℕ → ℕ → List Event
compile_events format room =
    check (leb (length format) longest_format) 5 ∷ check (leb room longest_buffer) 5
    ∷ judged (fault (items format)) ∷ write (put (stored (parts (items format)))) ∷ []

-- the outcome of compiling a format into a buffer of `room` bytes: the stored form, or a refusal. Nothing is padded, so no limit is met
unfoldable pub compiled : List ℕ → ℕ → Outcome
compiled format room = run 0 room (compile_events format room)

-- 5; then "BadStored (11), before any text"; then the parts
unfoldable pub stored_events : List ℕ → ℕ → List ℕ → Record → ℕ → List Event
stored_events s format_length zone r room =
    check (leb format_length longest_format) 5 ∷ check (leb (length zone) longest_zone) 5 ∷ check (leb room longest_buffer) 5
    ∷ check (well_stored s) 11 ∷ part_events (events_of r zone) (loaded s)

-- the outcome for stored bytes, a zone name, a record and a buffer of `room` bytes. "the original format length is passed along .. and it limits
-- only pads"
unfoldable pub formatted_stored : List ℕ → ℕ → List ℕ → Record → ℕ → Outcome
formatted_stored s format_length zone r room = run (limit_of format_length) room (stored_events s format_length zone r room)

-- ## What 8 bytes say

-- they say this directive
pub record Codes (s : List ℕ) (p : Piece) : Type 0 where
  pub letter : coded_spec (get_or s 0 0) ≡ Some p.spec
  pub padding : get_or s 1 0 ≡ padding_code p.padding
  pub flags : get_or s 2 0 ≡ flags_code p.flags
  pub there : get_or s 3 0 ≡ present p.width
  pub width : four_of (drop 4 s) ≡ width_value p.width

-- a directive that these 8 bytes say, and a format that is parsed to it alone
pub record Parsing (s : List ℕ) : Type 0 where
  pub piece : Piece
  pub codes : Codes s piece
  pub format : List ℕ
  pub parsed : items format ≡ directive piece ∷ []
