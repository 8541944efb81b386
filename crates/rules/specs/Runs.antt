-- Formats that arrive in runs (02, request 4): the calls, what stands between two of them, the events that each adds, the answer, and what a caller
-- then holds: numbers, store and buffer.
use Rattle.std.specs.Prelude.{Bool, true, false, cond, List, [], ◌∷◌, ◌++◌, ℕ, ◌+◌, ◌-◌, leb, eqb, length, take, drop}
use Rattle.rules.specs.declared.Record.{Record}
use Rattle.rules.specs.declared.Runs.{Runs}
use Rattle.rules.specs.declared.Progress.{Progress}
use Rattle.rules.specs.declared.Progress.TheVariants.{More, Done, Refused}
use Rattle.rules.specs.Refusal.{number_of, refusal_at, Report}
use Rattle.rules.specs.Event.{Event, check, text_of, Count, at, no, reach_of, number_in, tally}
use Rattle.rules.specs.Writing.{events_of}
use Rattle.rules.specs.Format.{Item, State, between, inside, settled, after, items, events, inputs, limit_of}

-- "a form that takes the total length first, then runs, then an end call": what comes after the total
pub data Call : Type 0 where
  bring : List ℕ → Call
  close : Call

-- "runs of 0 to 32 bytes"
abbrev pub longest_run : ℕ
longest_run = 32

-- what a call is lent: the zone name, the record, a buffer of `room` bytes, and a store of `store` bytes for what is pending
pub record Lent : Type 0 where
  pub zone : List ℕ
  pub time : Record
  pub room : ℕ
  pub store : ℕ

-- what stands between two calls: the total, how many bytes are read for good, the text of "a directive not yet wholly read", whether the end was
-- called, and how far the text came, or the refusal
pub record Arrived : Type 0 where
  pub total : ℕ
  pub passed : ℕ
  pub pending : List ℕ
  pub over : Bool
  pub count : Count

abbrev pub got : Arrived → ℕ
got s = s.passed + length s.pending

-- the first call, by the lengths of zone name, buffer and store. "5 .. as is a total above 4,096"; a store that couldn't hold all of the format is 4
unfoldable pub started : ℕ → ℕ → ℕ → ℕ → Arrived
started total zone_length room store =
    record {
      total = total;
      passed = 0;
      pending = [];
      over = false;
      count = tally (limit_of total) room (inputs total zone_length room ++ (check (leb total store) 4 ∷ [])) (at 0);
    }

-- "The size limit is format length times 524,288": the total's, whatever has arrived
abbrev pub limit_for : Arrived → ℕ
limit_for s = limit_of s.total

-- the refusals that are a call's own, in their order. "A wrong total is LengthMismatch (10), given at the run that passes it, .. or at the end,
-- before 2; a longer run is 5, before 10". The last two hold whenever store and buffer are those of the calls before
unfoldable pub checks : Lent → Arrived → Call → List Event
checks lent s (bring bytes) =
    inputs s.total (length lent.zone) lent.room
    ++ (check (leb (length bytes) longest_run) 5 ∷ check (leb (got s + length bytes) s.total) 10
    ∷ check (leb (length s.pending + length bytes) lent.store) 4 ∷ check (leb (reach_of s.count) lent.room) 4 ∷ [])
checks lent s close =
    inputs s.total (length lent.zone) lent.room
    ++ (check (eqb (got s) s.total) 10 ∷ check (leb (reach_of s.count) lent.room) 4 ∷ [])

-- the count after them
abbrev pub checked : Lent → Arrived → Call → Count
checked lent s c = tally (limit_for s) lent.room (checks lent s c) s.count

-- the bytes that a call brings
abbrev pub brought : Call → List ℕ
brought (bring bytes) = bytes
brought close = []

-- the items that a call settles: "Here output starts early". The end reads what is pending as the end of a format
unfoldable pub found : Arrived → Call → List Item
found s (bring bytes) = settled between (s.pending ++ bytes)
found s close = items s.pending

unfoldable pub added : Lent → Arrived → Call → List Event
added lent s c = events (events_of lent.time lent.zone) (found s c)

-- the text that is then pending: "nothing of a directive not yet wholly read" is written
abbrev pub pending_of : State → List ℕ
pending_of between = []
pending_of (inside r text) = text

unfoldable pub rest : Arrived → Call → List ℕ
rest s (bring bytes) = pending_of (after between (s.pending ++ bytes))
rest s close = []

abbrev pub is_end : Call → Bool
is_end (bring bytes) = false
is_end close = true

-- by the count after those checks: "of which nothing is read", or all of it
abbrev pub entered : Lent → Arrived → Call → Count → Arrived
entered lent s c (no number n) =
    record { total = s.total; passed = s.passed; pending = s.pending; over = s.over; count = no number n }
entered lent s c (at n) =
    record {
      total = s.total;
      passed = got s + length (brought c) - length (rest s c);
      pending = rest s c;
      over = is_end c;
      count = tally (limit_for s) lent.room (added lent s c) (at n);
    }

-- a call: "later calls, also after the end, repeat the answer"
unfoldable pub called : Lent → Arrived → Call → Arrived
called lent s c = cond s.over s (entered lent s c (checked lent s c))

unfoldable pub called_all : Lent → Arrived → List Call → Arrived
called_all lent s [] = s
called_all lent s (c ∷ cs) = called_all lent (called lent s c) cs

-- ## The answer

-- more is to come; or what the whole-format entry would report, a number and a length
pub data Said : Type 0 where
  more : Said
  ended : Report → Said

-- the answer by its cases: more has no number
unfoldable pub progressed : Progress → Said
progressed More = more
progressed (Done n) = ended (record { number = 0; bytes = n })
progressed (Refused r) = ended (record { number = number_of r; bytes = 0 })

-- by whether the end was called, and the count
abbrev pub said_by : Bool → Count → Said
said_by over (at n) = cond over (ended (record { number = 0; bytes = n })) more
said_by over (no number n) = ended (record { number = number; bytes = 0 })

unfoldable pub said : Arrived → Said
said s = said_by s.over s.count

-- ## The buffer

-- up to where the text stood it stays, then comes what the call adds as far as it came, and what stands behind stays
abbrev pub laid : ℕ → ℕ → List ℕ → List ℕ → List ℕ
laid from to text buffer = take from buffer ++ (take (to - from) text ++ drop to buffer)

unfoldable pub written : Lent → Arrived → Call → List ℕ → List ℕ
written lent s c buffer = laid (reach_of s.count) (reach_of (called lent s c).count) (text_of (added lent s c)) buffer

unfoldable pub written_all : Lent → Arrived → List Call → List ℕ → List ℕ
written_all lent s [] buffer = buffer
written_all lent s (c ∷ cs) buffer = written_all lent (called lent s c) cs (written lent s c buffer)

-- ## The store

-- where a call is read its bytes stand behind what was pending, and then what is pending in front of all
abbrev pub store_by : Arrived → Call → List ℕ → Count → List ℕ
store_by s c store (at n) =
    rest s c ++ drop (length (rest s c)) (s.pending ++ (brought c ++ drop (length s.pending + length (brought c)) store))
store_by s c store (no number n) = store

unfoldable pub store_after : Lent → Arrived → Call → List ℕ → List ℕ
store_after lent s c store = cond s.over store (store_by s c store (checked lent s c))

-- ## What a caller holds

-- the numbers that the last call gave, the store and the buffer
pub record Held : Type 0 where
  pub numbers : Runs
  pub store : List ℕ
  pub buffer : List ℕ

abbrev pub held : Runs → List ℕ → List ℕ → Held
held numbers store buffer = record { numbers = numbers; store = store; buffer = buffer }

-- the count that a refusal's number, or 0, and the text's reach stand for
abbrev pub count_by : ℕ → ℕ → Count
count_by number n = cond (eqb number 0) (at n) (no (number_of (refusal_at number)) n)

-- the answer that numbers give
abbrev pub said_in : Runs → Said
said_in s = said_by s.over (count_by s.number s.written)

-- what numbers and a store stand for, whatever they hold
abbrev pub arrived_of : Runs → List ℕ → Arrived
arrived_of s store =
    record { total = s.total; passed = s.passed; pending = take s.kept store; over = s.over; count = count_by s.number s.written }

abbrev pub numbers_of : Arrived → Runs
numbers_of s =
    record { total = s.total; passed = s.passed; kept = length s.pending; written = reach_of s.count; number = number_in s.count; over = s.over }

abbrev pub lent_of : List ℕ → Record → Held → Lent
lent_of zone time h = record { zone = zone; time = time; room = length h.buffer; store = length h.store }

-- what a caller holds after the first call, and after a call
abbrev pub begun : ℕ → List ℕ → List ℕ → List ℕ → Held
begun total zone store buffer = held (numbers_of (started total (length zone) (length buffer) (length store))) store buffer

unfoldable pub held_after : List ℕ → Record → Held → Call → Held
held_after zone time h c =
    held (numbers_of (called (lent_of zone time h) (arrived_of h.numbers h.store) c))
    (store_after (lent_of zone time h) (arrived_of h.numbers h.store) c h.store)
    (written (lent_of zone time h) (arrived_of h.numbers h.store) c h.buffer)

unfoldable pub held_all : List ℕ → Record → Held → List Call → Held
held_all zone time h [] = h
held_all zone time h (c ∷ cs) = held_all zone time (held_after zone time h c) cs

-- ## A format cut into runs

-- their calls, the whole of it, and that none is longer than a run may be
unfoldable pub runs_of : List (List ℕ) → List Call
runs_of [] = []
runs_of (r ∷ rs) = bring r ∷ runs_of rs

unfoldable pub whole : List (List ℕ) → List ℕ
whole [] = []
whole (r ∷ rs) = r ++ whole rs

unfoldable pub short : List (List ℕ) → Bool
short [] = true
short (r ∷ rs) = cond (leb (length r) longest_run) (short rs) false
