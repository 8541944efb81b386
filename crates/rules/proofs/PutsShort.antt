-- No put that a format reaches is longer than 65,535 bytes: a number's text is filled up to there, and all else is far shorter.
use mathlib.Core.Path.{◌≡◌, refl}
use mathlib.Core.Bool.{Bool, true, false, ◌&&◌}
use mathlib.Core.List.{List, [], ◌∷◌, ◌++◌, map, flatten}
use Prim.Native.Nat.{ℕ, zero, suc, ◌+◌, ◌-◌, ◌/◌, ◌^◌, ◌≤◌, ◌<◌, min}
use native.Mathlib.Omega.{arith}
use borrow.Author.Tests.{leb-true}
use lib.Dec.{ltb, leb, eqb, lit≤, lit<}
use lib.IntN.{ℤ, pos, negsuc}
use lib.ListN.{length, get_or, length-append, length-take}
use lib.Signed.{mag}
use Rattle.rules.specs.declared.Record.{Record}
use Rattle.rules.specs.declared.Flags.{Flags}
use Rattle.rules.specs.declared.Number.{Number}
use Rattle.rules.specs.declared.Number.TheVariants.{Year4Digits, YearDiv100, YearRem100, Month, MonthDayZero, MonthDaySpace, YearDay, Hour24hZero, Hour24hSpace, Hour12hZero, Hour12hSpace, Minute, Second, WeekDayFrom1, WeekDayFrom0, YearIso8601, YearIso8601Rem100, WeekNumberIso8601, WeekNumberFromSunday, WeekNumberFromMonday, SecondsSinceEpoch}
use Rattle.rules.specs.declared.Name.{Name}
use Rattle.rules.specs.declared.Name.TheVariants.{MonthName, MonthNameAbbr, MeridianLower, MeridianUpper, WeekDayName, WeekDayNameAbbr}
use Rattle.rules.specs.declared.Combination.{Combination}
use Rattle.rules.specs.declared.Combination.TheVariants.{CombinationDateTime, CombinationDate, CombinationIso8601, CombinationVmsDate, CombinationTime12h, CombinationHourMinute24h, CombinationTime24h}
use Rattle.rules.specs.declared.Spec.{Spec}
use Rattle.rules.specs.declared.Spec.TheVariants.{Number as number, Name as name, Fraction as fraction, Offset as offset, TimeZoneName, Fixed as fixed, Combination as combination}
use Rattle.rules.specs.declared.Piece.{Piece}
use Rattle.rules.specs.declared.Turn.{Turn}
use Rattle.rules.specs.declared.Turn.TheVariants.{More, Found, Echoed, Unread}
use Rattle.rules.specs.Ascii.{byte, ascii}
use Rattle.rules.specs.Record.{longest_format, longest_zone}
use Rattle.rules.specs.Event.{Write, put, pad, Event, write, check}
use Rattle.rules.specs.Decimal.{digits, decimal_text, Fill, zeros, spaces, filled, floor_div}
use Rattle.rules.specs.Name.{day_names, month_names, day_name, month_name, abbreviated, before12, name_of, case_of, zone_case}
use Rattle.rules.specs.Week.{iso_week}
use Rattle.rules.specs.Offset.{hours_of, minutes_of, Form, hh, hhmm, hh:mm, hh:mm:ss, parts_of, sign_and_pad, offset_writes}
use Rattle.rules.specs.Reading.{turn, open?}
use Rattle.rules.specs.Writing.{or_if_zero, value_of, number_writes, name_writes, fixed_byte, zone_writes, fraction_writes, year_width, day_text, combination_text, number_fields, combination_fields, fields_of, lead_of, body_of, verdict_of, spec_events, events_of}
use Rattle.rules.specs.Format.{Item, literal, echo, directive, cut, State, between, inside, Step, fresh, on_turn, step, ending, items, item_events, events}
use Rattle.rules.specs.Size.{Typed}
use Rattle.rules.proofs.DecimalLaws.{count_le, length_places, length_text_to, length_filled}
use Rattle.rules.proofs.EachItem.{AllItems, all_read}
use Rattle.rules.proofs.FloorLaws.{mod_below}
use Rattle.rules.proofs.FormatLaws.{passes}
use Rattle.rules.proofs.RecordLaws.{by_test, both, Each, ranges_of}
use Rattle.rules.proofs.WeekLaws.{week_number_to, iso_week_to, iso_year_near}
use Rattle.rules.proofs.YearLaws.{days_to}
use Rattle.rules.proofs.WidthLaws.{year_narrow, hour12_below, length_cased}

abbrev pub longest_put : ℕ
longest_put = 65535

abbrev pub Short : Write → Type 0
Short (put bytes) = length bytes ≤ longest_put
Short (pad byte count) = Unit {0}

-- each put that is reached is short: a write counts only where the checks before it have passed
unfoldable pub ReachedShort : List Event → Type 0
ReachedShort [] = Unit {0}
ReachedShort (write w ∷ es) = Short w × ReachedShort es
ReachedShort (check ok n ∷ es) = ok ≡ true → ReachedShort es

reached_join : (xs ys : List Event) → ReachedShort xs → ReachedShort ys → ReachedShort (xs ++ ys)
unfolding ReachedShort
reached_join [] ys h k = k
reached_join (write w ∷ xs) ys h k = (h.0, reached_join xs ys h.1 k)
reached_join (check ok n ∷ xs) ys h k = λ e. reached_join xs ys (h e) k

-- ## Echoes

module _ (most : ℕ) where
  abbrev EchoShort : Item → Type 0
  EchoShort (literal b) = Unit {0}
  EchoShort (echo text) = length text ≤ most
  EchoShort (directive p) = Unit {0}
  EchoShort cut = Unit {0}

  -- what was read of a directive and the bytes left are together at most as many
  abbrev Within : ℕ → State → Type 0
  Within left between = left ≤ most
  Within left (inside r text) = length text + left ≤ most

  abbrev StepShort : ℕ → Step → Type 0
  StepShort left s = AllItems EchoShort s.settles × Within left s.to

  fresh_short : (left b : ℕ) → suc left ≤ most → StepShort left (fresh b)
  fresh_short left b h = by_test (StepShort left) (eqb b (byte "%")) (λ t. (tt, omega arith)) (λ f. ((tt, tt), omega arith))

  step_short : (left : ℕ) (state : State) (b : ℕ) → Within (suc left) state → StepShort left (step state b)
  unfolding step
  step_short left between b h = fresh_short left b h
  step_short left (inside r text) b h = go (turn r b)
    where
      longer : length (text ++ (b ∷ [])) ≡ length text + 1
      longer = length-append text (b ∷ [])

      go : (t : Turn) → StepShort left (on_turn text b t)
      go (More next) = (tt, omega (arith, longer))
      go (Found p) = ((tt, tt), omega arith)
      go Echoed = ((omega (arith, longer), tt), omega arith)
      go Unread = let f = fresh_short left b (omega arith) in ((omega arith, f.0), f.1)

  end_short : (state : State) → Within 0 state → AllItems EchoShort (ending state)
  unfolding ending
  end_short between h = tt
  end_short (inside r text) h = (by_test EchoShort (open? r) (λ t. tt) (λ f. omega arith), tt)

  -- no echo is longer than the format
  echoes_short : (format : List ℕ) → length format ≤ most → AllItems EchoShort (items format)
  echoes_short format h = all_read EchoShort Within step_short end_short between format h

-- ## Writes

abbrev AllShort : List Write → Type 0
AllShort [] = Unit {0}
AllShort (w ∷ ws) = Short w × AllShort ws

short_join : (xs ys : List Write) → AllShort xs → AllShort ys → AllShort (xs ++ ys)
short_join [] ys h k = k
short_join (w ∷ xs) ys h k = (h.0, short_join xs ys h.1 k)

reached_writes : (ws : List Write) → AllShort ws → ReachedShort (map write ws)
unfolding ReachedShort
reached_writes [] h = tt
reached_writes (w ∷ ws) h = (h.0, reached_writes ws h.1)

number_short : (left : Bool) (fill : Fill) (width : ℕ) (value : ℤ) → length (decimal_text value) ≤ 20 → AllShort (number_writes left fill width value)
unfolding number_writes
number_short true fill width value h = (omega arith, tt)
number_short false fill width value h = (tt, (omega (arith, length_filled fill (min width 65535) value), tt))

padded_short : (p : Piece) (text : List ℕ) → length text ≤ longest_put → AllShort (name_writes p text)
unfolding name_writes
padded_short p text h = by_test (λ ws. AllShort (ws ++ (put text ∷ []))) p.flags.left (λ t. (h, tt)) (λ f. (tt, (h, tt)))

zone_short : (p : Piece) (zone : List ℕ) → length zone ≤ longest_zone → AllShort (zone_writes p zone)
unfolding zone_writes
zone_short p [] h = tt
zone_short p (b ∷ zone) h = padded_short p _ (omega (arith, length_cased (zone_case p.flags) (b ∷ zone)))

fraction_short : (width nanos : ℕ) → AllShort (fraction_writes width nanos)
unfolding fraction_writes
fraction_short width nanos = (omega (arith, length_places (min width 9) (nanos / 10 ^ (9 - width))), (tt, tt))

sign_short : (fill : Fill) (negative : Bool) (count : ℕ) → AllShort (sign_and_pad fill negative count)
unfolding sign_and_pad
sign_short zeros true count = (lit≤ tt, (tt, tt))
sign_short zeros false count = (lit≤ tt, (tt, tt))
sign_short spaces true count = (tt, (lit≤ tt, tt))
sign_short spaces false count = (tt, (lit≤ tt, tt))

parts_short : (form : Form) (z : ℤ) → length (parts_of form z) ≤ 6
unfolding parts_of
parts_short hh z = lit≤ tt
parts_short hhmm z = omega (arith, length_places 2 (minutes_of z))
parts_short hh:mm z = omega (arith, length_places 2 (minutes_of z))
parts_short hh:mm:ss z = simp (length-append, length_places) (lit≤ tt)

hours_few : (z : ℤ) → mag z < 2147483648 → hours_of z < 10 ^ 6
hours_few (pos n) h = omega arith
hours_few (negsuc n) h = omega arith

offset_short : (form : Form) (fill : Fill) (width : ℕ) (negative : Bool) (z : ℤ) → mag z < 2147483648 → AllShort (offset_writes form fill width negative z)
unfolding offset_writes
offset_short form fill width negative z h =
    short_join (sign_and_pad fill negative _) _ (sign_short fill negative _)
    (omega (arith, length-append (digits (hours_of z)) (parts_of form z), count_le 5 (hours_of z) (hours_few z h), parts_short form z), tt)

-- ## Texts

-- no name of a table has more than k letters
abbrev narrow : ℕ → List (List ℕ) → Bool
narrow k [] = true
narrow k (x ∷ names) = leb (length x) k && narrow k names

few_letters : (k : ℕ) (names : List (List ℕ)) (i : ℕ) → narrow k names ≡ true → length (get_or names i []) ≤ k
few_letters k [] i h = omega arith
few_letters k (x ∷ names) zero h = leb-true (length x) k (both (leb (length x) k) (narrow k names) h).0
few_letters k (x ∷ names) (suc i) h = few_letters k names i (both (leb (length x) k) (narrow k names) h).1

month_name_short : (m : ℕ) → length (month_name m) ≤ 9
unfolding month_name month_names
month_name_short m = few_letters 9 month_names (m - 1) refl

day_name_short : (d : ℕ) → length (day_name d) ≤ 9
unfolding day_name day_names
day_name_short d = few_letters 9 day_names d refl

abbreviated_short : (text : List ℕ) → length (abbreviated text) ≤ 3
abbreviated_short text = omega (arith, length-take 3 text)

meridian_short : (hour : ℕ) (am pm : List ℕ) → length am ≤ 2 → length pm ≤ 2 → length (before12 hour am pm) ≤ 2
meridian_short hour am pm a p = by_test (λ text. length text ≤ 2) (ltb hour 12) (λ t. a) (λ f. p)

name_short : (n : Name) (r : Record) → length (name_of n r) ≤ 9
unfolding name_of
name_short MonthName r = month_name_short r.month
name_short MonthNameAbbr r = omega (arith, abbreviated_short (month_name r.month))
name_short MeridianLower r = omega (arith, meridian_short r.hour (ascii "am") (ascii "pm") (lit≤ tt) (lit≤ tt))
name_short MeridianUpper r = omega (arith, meridian_short r.hour (ascii "AM") (ascii "PM") (lit≤ tt) (lit≤ tt))
name_short WeekDayName r = day_name_short r.day_of_week
name_short WeekDayNameAbbr r = omega (arith, abbreviated_short (day_name r.day_of_week))

century_small : (z : ℤ) → mag (floor_div z 100) ≤ mag z
century_small (pos n) = omega arith
century_small (negsuc n) = omega arith

from1_small : (d : ℕ) → d ≤ 6 → or_if_zero 7 d ≤ 7
from1_small d h = by_test (λ n. n ≤ 7) (eqb d 0) (λ t. omega arith) (λ f. omega arith)

day_short : (d : ℕ) → d ≤ 31 → length (day_text d) ≤ 20
day_short d h = omega (arith, length_filled spaces 2 (pos d), length_text_to (pos d) (omega arith))

module _ (r : Record) (typed : Typed r) where
  -- a number whose fields have passed their check fits 64 bits
  value_small : (n : Number) → Each (number_fields n) r → mag (value_of n r) < 2 ^ 63
  unfolding value_of number_fields
  value_small Year4Digits h = omega (arith, typed.year)
  value_small YearDiv100 h = omega (arith, typed.year, century_small r.year)
  value_small YearRem100 h = omega (arith, mod_below r.year 100 (lit< tt))
  value_small Month h = omega arith
  value_small MonthDayZero h = omega arith
  value_small MonthDaySpace h = omega arith
  value_small YearDay h = omega (arith, days_to r.year)
  value_small Hour24hZero h = omega arith
  value_small Hour24hSpace h = omega arith
  value_small Hour12hZero h = omega (arith, hour12_below r.hour)
  value_small Hour12hSpace h = omega (arith, hour12_below r.hour)
  value_small Minute h = omega arith
  value_small Second h = omega arith
  value_small WeekDayFrom1 h = omega (arith, from1_small r.day_of_week h.0)
  value_small WeekDayFrom0 h = omega arith
  value_small YearIso8601 h = omega (arith, typed.year, iso_year_near r.year r.day_of_week r.day_of_year)
  value_small YearIso8601Rem100 h = omega (arith, mod_below (iso_week r.year r.day_of_week r.day_of_year).year 100 (lit< tt))
  value_small WeekNumberIso8601 h = omega (arith, iso_week_to r.year r.day_of_week r.day_of_year h.1.0.1)
  value_small WeekNumberFromSunday h = omega (arith, week_number_to 0 r.year r.day_of_week r.day_of_year h.1.0.1)
  value_small WeekNumberFromMonday h = omega (arith, week_number_to 1 r.year r.day_of_week r.day_of_year h.1.0.1)
  value_small SecondsSinceEpoch h = omega (arith, typed.to_int)

  year_short : (w : ℕ) → w ≤ 5 → length (filled zeros w r.year) ≤ 20
  year_short w h = omega (arith, length_filled zeros w r.year, length_text_to r.year (omega (arith, typed.year)))

  combination_short : (c : Combination) (f : Flags) → Each (combination_fields c) r → length (combination_text c f r) ≤ longest_put
  unfolding combination_text combination_fields flatten
  combination_short CombinationDateTime f h =
      simp (length-append, length_places, length_cased)
      (omega (arith, abbreviated_short (day_name r.day_of_week), abbreviated_short (month_name r.month), day_short r.day h.1.1.0.1, year_short (year_width r.year) (year_narrow r.year)))
  combination_short CombinationDate f h = simp (length-append, length_places) (lit≤ tt)
  combination_short CombinationIso8601 f h = simp (length-append, length_places) (omega (arith, year_short (year_width r.year) (year_narrow r.year)))
  combination_short CombinationVmsDate f h =
      simp (length-append, length_cased) (omega (arith, abbreviated_short (month_name r.month), day_short r.day h.1.0.1, year_short 4 (lit≤ tt)))
  combination_short CombinationTime12h f h =
      simp (length-append, length_places) (omega (arith, meridian_short r.hour (ascii "AM") (ascii "PM") (lit≤ tt) (lit≤ tt)))
  combination_short CombinationHourMinute24h f h = simp (length-append, length_places) (lit≤ tt)
  combination_short CombinationTime24h f h = simp (length-append, length_places) (lit≤ tt)

  -- ## The events of a directive

  module _ (zone : List ℕ) (short : length zone ≤ longest_zone) where
    body_short : (s : Spec) (p : Piece) → Each (fields_of s) r → AllShort (body_of s p r zone)
    unfolding body_of fields_of
    body_short (number n) p h = number_short p.flags.left _ _ (value_of n r) (length_text_to (value_of n r) (value_small n h))
    body_short (name n) p h = padded_short p _ (omega (arith, length_cased (case_of n p.flags) (name_of n r), name_short n r))
    body_short (fraction f) p h = fraction_short _ r.nanoseconds
    body_short (offset o) p h = offset_short _ _ _ _ r.utc_offset typed.utc_offset
    body_short TimeZoneName p h = zone_short p zone short
    body_short (fixed f) p h = padded_short p (fixed_byte f ∷ []) (lit≤ tt)
    body_short (combination c) p h = (combination_short c p.flags h, tt)

    lead_short : (s : Spec) (p : Piece) → AllShort (lead_of s p r.year)
    unfolding lead_of
    lead_short (number n) p = tt
    lead_short (name n) p = tt
    lead_short (fraction f) p = tt
    lead_short (offset o) p = tt
    lead_short TimeZoneName p = tt
    lead_short (fixed f) p = tt
    lead_short (combination c) p = (tt, tt)

    piece_short : (p : Piece) → ReachedShort (events_of r zone p)
    unfolding events_of spec_events verdict_of ReachedShort
    piece_short p =
        reached_join (map write (lead_of p.spec p r.year)) _ (reached_writes (lead_of p.spec p r.year) (lead_short p.spec p))
        (λ e. reached_writes (body_of p.spec p r zone) (body_short p.spec p (ranges_of (fields_of p.spec) r zone (passes _ e))))

    -- ## The events of a format

    item_short : (i : Item) → EchoShort longest_format i → ReachedShort (item_events (events_of r zone) i)
    unfolding item_events ReachedShort
    item_short (literal b) h = (lit≤ tt, tt)
    item_short (echo text) h = (omega arith, tt)
    item_short (directive p) h = piece_short p
    item_short cut h = λ e. tt

    items_short : (is : List Item) → AllItems (EchoShort longest_format) is → ReachedShort (events (events_of r zone) is)
    unfolding events ReachedShort
    items_short [] h = tt
    items_short (i ∷ is) h = reached_join (item_events (events_of r zone) i) (events (events_of r zone) is) (item_short i h.0) (items_short is h.1)

    -- no put that is reached has more than 65,535 bytes
    pub puts_short : (format : List ℕ) → length format ≤ longest_format → ReachedShort (events (events_of r zone) (items format))
    puts_short format h = items_short (items format) (echoes_short longest_format format h)
