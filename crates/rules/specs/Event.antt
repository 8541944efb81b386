-- Events (01, "Refusal table"): what a format does from left to right, the text that it writes, and the first event that fails.
use Rattle.std.specs.Prelude.{◌≡◌, Bool, true, cond, ◌||◌, List, [], ◌∷◌, ◌++◌, ℕ, ◌+◌, leb, eqb, length, replicate, drop}
use Rattle.rules.specs.Refusal.{Report}

-- "write bytes, pad": some bytes; or one byte, so many times, by `SizeLimiter::pad`
pub data Write : Type 0 where
  put : List ℕ → Write
  pad : ℕ → ℕ → Write

-- "check fields, end inside a directive": a check holds or fails, with its number of the refusal table
pub data Event : Type 0 where
  write : Write → Event
  check : Bool → ℕ → Event

-- a check by its verdict: 0 passes, and any other number is the refusal's
abbrev pub judged : ℕ → Event
judged verdict = check (eqb verdict 0) verdict

-- the bytes of a write, and how many they are
unfoldable pub bytes_of : Write → List ℕ
bytes_of (put bytes) = bytes
bytes_of (pad byte count) = replicate count byte

unfoldable pub write_length : Write → ℕ
write_length (put bytes) = length bytes
write_length (pad byte count) = count

-- the text of the events, and its length
unfoldable pub text_of : List Event → List ℕ
text_of [] = []
text_of (write w ∷ es) = bytes_of w ++ text_of es
text_of (check ok number ∷ es) = text_of es

unfoldable pub length_of : List Event → ℕ
length_of [] = 0
length_of (write w ∷ es) = write_length w + length_of es
length_of (check ok number ∷ es) = length_of es

-- at n: n bytes are written so far; no number n: refused, and the text came as far as n bytes
pub data Count : Type 0 where
  at : ℕ → Count
  no : ℕ → ℕ → Count

-- how far the text came
unfoldable pub reach_of : Count → ℕ
reach_of (at n) = n
reach_of (no number n) = n

-- the refusal's number, or 0
unfoldable pub number_in : Count → ℕ
number_in (at n) = 0
number_in (no number n) = number

-- "the next byte has no room" is 4: the text then comes as far as the room
unfoldable pub room_for : ℕ → ℕ → Count
room_for room n = cond (leb n room) (at n) (no 4 room)

-- no limit refuses a pad of no bytes
abbrev pub within_limit : ℕ → ℕ → ℕ → Bool
within_limit limit n count = eqb count 0 || leb (n + count) limit

-- "A pad of n bytes is tested whole against the size limit first (3), then against the room (4)."
unfoldable pub write_at : ℕ → ℕ → Write → ℕ → Count
write_at limit room (put bytes) n = room_for room (n + length bytes)
write_at limit room (pad byte count) n = cond (within_limit limit n count) (room_for room (n + count)) (no 3 n)

unfoldable pub one : ℕ → ℕ → Event → Count → Count
one limit room e (no number n) = no number n
one limit room (write w) (at n) = write_at limit room w n
one limit room (check ok number) (at n) = cond ok (at n) (no number n)

-- "The first event that fails names the refusal."
unfoldable pub tally : ℕ → ℕ → List Event → Count → Count
tally limit room [] c = c
tally limit room (e ∷ es) c = tally limit room es (one limit room e c)

-- "length and text", or a refusal
pub data Outcome : Type 0 where
  done : List ℕ → Outcome
  refused : ℕ → Outcome

abbrev pub outcome_of : Count → List ℕ → Outcome
outcome_of (at n) text = done text
outcome_of (no number n) text = refused number

unfoldable pub run : ℕ → ℕ → List Event → Outcome
run limit room es = outcome_of (tally limit room es (at 0)) (text_of es)

-- "1 to 5 report length 0 and leave the buffer untouched."
unfoldable pub reported : Outcome → Report
reported (done text) = record { number = 0; bytes = length text }
reported (refused number) = record { number = number; bytes = 0 }

-- the buffer afterwards: the text and what stood behind it, or all as it was
unfoldable pub buffer_after : Outcome → List ℕ → List ℕ
buffer_after (done text) buffer = text ++ drop (length text) buffer
buffer_after (refused number) buffer = buffer

-- every check of the list holds
unfoldable pub Holds : List Event → Type 0
Holds [] = Unit {0}
Holds (write w ∷ es) = Holds es
Holds (check ok number ∷ es) = (ok ≡ true) × Holds es
