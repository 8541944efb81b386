-- What the size of a format is, over any set of records and zone names (01, "Refusal table", sizing; the tender's third demand).
use Rattle.std.specs.Prelude.{◌≡◌, List, ◌⊎◌, ℕ, suc, ◌≤◌, ◌<◌, length}
use Rattle.rules.specs.declared.Record.{Record}
use Rattle.rules.specs.Record.{InI32, InI64, InRange, longest_format, longest_zone, longest_buffer}
use Rattle.rules.specs.Refusal.{Report}
use Rattle.rules.specs.Event.{Outcome, done, refused, text_of}
use Rattle.rules.specs.Writing.{events_of}
use Rattle.rules.specs.Format.{items, events, fault, formatted}

-- a set of records, each with its zone name
abbrev pub Stamps : Type 1
Stamps = Record → List ℕ → Type 0

-- the outcomes for a format, a zone name, a record and a buffer: `formatted` are those of the rules
abbrev pub Outcomes : Type 0
Outcomes = List ℕ → List ℕ → Record → ℕ → Outcome

abbrev pub text_for : List ℕ → List ℕ → Record → List ℕ
text_for format zone r = text_of (events (events_of r zone) (items format))

-- "its text or InvalidTime": what a record may get in place of its text
abbrev pub Excused : ℕ → Type 0
Excused number = number ≡ 1

-- "a buffer of N bytes gives every record .. its text or InvalidTime, and one record .. needs exactly N"
pub record SizeBy (outcomes : Outcomes) (Every Some : Stamps) (format : List ℕ) (n : ℕ) : Type 0 where
  pub serves : (r : Record) (zone : List ℕ) → Every r zone → (outcomes format zone r n ≡ done (text_for format zone r)) ⊎ ((number : ℕ) × (Excused number × (outcomes format zone r n ≡ refused number)))
  pub one : Record
  pub one_zone : List ℕ
  pub one_in : Some one one_zone
  pub one_fits : outcomes format one_zone one n ≡ done (text_for format one_zone one)
  pub one_needs : (room : ℕ) → room < n → outcomes format one_zone one room ≡ refused 4

-- "some such in-range record fits no buffer of 65,536 bytes or fewer"
pub record NoneServesBy (outcomes : Outcomes) (Some : Stamps) (format : List ℕ) : Type 0 where
  pub one : Record
  pub one_zone : List ℕ
  pub one_in : Some one one_zone
  pub fits_none : (room : ℕ) → room ≤ longest_buffer → (text : List ℕ) → outcomes format one_zone one room ≡ done text → ⊥

-- the inputs keep the longest lengths
pub record Kept (format : List ℕ) (longest : ℕ) : Type 0 where
  pub format_short : length format ≤ longest_format
  pub zone_short : longest ≤ longest_zone

-- "Sizing: 5, then 2 for any format that ends inside a directive, then 6." "its refusals report size 0"
pub data SizingBy (outcomes : Outcomes) (Every Some : Stamps) (format : List ℕ) (longest : ℕ) : Report → Type 0 where
  too_long : (longest_format < length format) ⊎ (longest_zone < longest) → SizingBy outcomes Every Some format longest (record { number = 5; bytes = 0 })
  faulty : (n : ℕ) → Kept format longest → fault (items format) ≡ suc n → SizingBy outcomes Every Some format longest (record { number = suc n; bytes = 0 })
  no_buffer : Kept format longest → fault (items format) ≡ 0 → NoneServesBy outcomes Some format → SizingBy outcomes Every Some format longest (record { number = 6; bytes = 0 })
  needs : (n : ℕ) → Kept format longest → fault (items format) ≡ 0 → SizeBy outcomes Every Some format n → SizingBy outcomes Every Some format longest (record { number = 0; bytes = n })

-- the same by the rules
abbrev pub SizeIs : Stamps → Stamps → List ℕ → ℕ → Type 0
SizeIs = SizeBy formatted

abbrev pub NoneServes : Stamps → List ℕ → Type 0
NoneServes = NoneServesBy formatted

abbrev pub Sizing : Stamps → Stamps → List ℕ → ℕ → Report → Type 0
Sizing = SizingBy formatted

-- the numbers of a record fit their types
pub record Typed (r : Record) : Type 0 where
  pub year : InI32 r.year
  pub to_int : InI64 r.to_int
  pub utc_offset : InI32 r.utc_offset

-- "every record whose zone name is no longer than that"
pub record AnyStamp (longest : ℕ) (r : Record) (zone : List ℕ) : Type 0 where
  pub typed : Typed r
  pub short : length zone ≤ longest

-- "one record with all fields in range"
pub record GoodStamp (longest : ℕ) (r : Record) (zone : List ℕ) : Type 0 where
  pub typed : Typed r
  pub in_range : InRange r zone
  pub short : length zone ≤ longest
