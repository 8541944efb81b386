-- A format, read byte by byte as a list of items; their events; the outcome of the whole (01, "Refusal table" and "Reading").
use Rattle.std.specs.Prelude.{Bool, true, false, cond, ◌&&◌, List, [], ◌∷◌, ◌++◌, ℕ, ◌+◌, ◌*◌, leb, eqb, length}
use Rattle.rules.specs.declared.Record.{Record}
use Rattle.rules.specs.declared.Piece.{Piece}
use Rattle.rules.specs.declared.Reading.{Reading}
use Rattle.rules.specs.declared.Reading.TheVariants.{InFlags}
use Rattle.rules.specs.declared.Turn.{Turn}
use Rattle.rules.specs.declared.Turn.TheVariants.{More, Found, Echoed, Unread}
use Rattle.rules.specs.declared.Parsed.{Parsed}
use Rattle.rules.specs.declared.Parsed.TheVariants.{Directive, Echo, Cut}
use Rattle.rules.specs.Ascii.{byte}
use Rattle.rules.specs.Record.{longest_format, longest_zone, longest_buffer}
use Rattle.rules.specs.Event.{put, Event, write, check, Outcome, run}
use Rattle.rules.specs.Reading.{outset, turn, open?}
use Rattle.rules.specs.Writing.{events_of}

-- a byte that stands for itself; a directive's text that is echoed; a directive; the format ends inside a directive
pub data Item : Type 0 where
  literal : ℕ → Item
  echo : List ℕ → Item
  directive : Piece → Item
  cut : Item

-- between two items; or inside a directive, of which the text from its percent sign is kept
pub data State : Type 0 where
  between : State
  inside : Reading → List ℕ → State

-- the items that one byte settles, and the state after it
pub record Step : Type 0 where
  pub settles : List Item
  pub to : State

abbrev pub fresh : ℕ → Step
fresh b =
    cond (eqb b (byte "%")) (record { settles = []; to = inside (InFlags outset) (b ∷ []) }) (record { settles = literal b ∷ []; to = between })

-- "Echo writes the directive's text from `%` to where reading stopped."
abbrev pub on_turn : List ℕ → ℕ → Turn → Step
on_turn text b (More r) = record { settles = []; to = inside r (text ++ (b ∷ [])) }
on_turn text b (Found p) = record { settles = directive p ∷ []; to = between }
on_turn text b Echoed = record { settles = echo (text ++ (b ∷ [])) ∷ []; to = between }
on_turn text b Unread = record { settles = echo text ∷ (fresh b).settles; to = (fresh b).to }

unfoldable pub step : State → ℕ → Step
step between b = fresh b
step (inside r text) b = on_turn text b (turn r b)

-- what the end of the format settles
unfoldable pub ending : State → List Item
ending between = []
ending (inside r text) = cond (open? r) cut (echo text) ∷ []

unfoldable pub read : State → List ℕ → List Item
read state [] = ending state
read state (b ∷ bytes) = (step state b).settles ++ read (step state b).to bytes

abbrev pub items : List ℕ → List Item
items format = read between format

-- what some bytes settle by themselves, and the state after them
unfoldable pub settled : State → List ℕ → List Item
settled state [] = []
settled state (b ∷ bytes) = (step state b).settles ++ settled (step state b).to bytes

unfoldable pub after : State → List ℕ → State
after state [] = state
after state (b ∷ bytes) = after (step state b).to bytes

-- what stands at a percent sign, by positions: reading goes on at `at` with the bytes that are left
abbrev pub parsed_by : Turn → ℕ → (Reading → Parsed) → Parsed
parsed_by (More r) at rest = rest r
parsed_by (Found p) at rest = Directive p (at + 1)
parsed_by Echoed at rest = Echo (at + 1)
parsed_by Unread at rest = Echo at

unfoldable pub parse_from : Reading → ℕ → List ℕ → Parsed
parse_from r at [] = cond (open? r) Cut (Echo at)
parse_from r at (b ∷ bytes) = parsed_by (turn r b) at (λ next. parse_from next (at + 1) bytes)

-- the events of items, for given events of a directive. "the format ends inside a directive" is 2
module _ (events_for : Piece → List Event) where
  unfoldable pub item_events : Item → List Event
  item_events (literal b) = write (put (b ∷ [])) ∷ []
  item_events (echo text) = write (put text) ∷ []
  item_events (directive p) = events_for p
  item_events cut = check false 2 ∷ []

  unfoldable pub events : List Item → List Event
  events [] = []
  events (i ∷ is) = item_events i ++ events is

-- "A format is valid if it has at most 4,096 bytes and doesn't end inside a directive."
abbrev pub is_cut : Item → Bool
is_cut (literal b) = false
is_cut (echo text) = false
is_cut (directive p) = false
is_cut cut = true

-- what makes a format no valid one, by its refusal's number: 2, or 0 where nothing does
unfoldable pub fault : List Item → ℕ
fault [] = 0
fault (i ∷ is) = cond (is_cut i) 2 (fault is)

unfoldable pub valid : List ℕ → Bool
valid format = leb (length format) longest_format && eqb (fault (items format)) 0

-- "The size limit is format length times 524,288"
abbrev pub limit_of : ℕ → ℕ
limit_of format_length = format_length * 524288

-- "Longest inputs"
abbrev pub inputs : ℕ → ℕ → ℕ → List Event
inputs format_length zone_length room =
    check (leb format_length longest_format) 5 ∷ check (leb zone_length longest_zone) 5 ∷ check (leb room longest_buffer) 5 ∷ []

-- "5 first, even for an empty format."
abbrev pub lengths_first : List ℕ → List ℕ → ℕ → List Event → List Event
lengths_first format zone room es = inputs (length format) (length zone) room ++ es

-- "Then the format runs left to right as events"
unfoldable pub format_events : List ℕ → List ℕ → Record → ℕ → List Event
format_events format zone r room = lengths_first format zone room (events (events_of r zone) (items format))

-- the outcome for a format, a zone name, a record and a buffer of `room` bytes
unfoldable pub formatted : List ℕ → List ℕ → Record → ℕ → Outcome
formatted format zone r room = run (limit_of (length format)) room (format_events format zone r room)
