-- A stored form from one of its steps on, by positions: i is that of the step, `from` that of the first literal byte that no step before it used.
use Rattle.std.specs.Prelude.{◌≡◌, Bool, true, cond, List, [], ◌∷◌, ◌++◌, ℕ, ◌+◌, ◌-◌, ◌*◌, ◌/◌, ◌≤◌, eqb, length, get_or, take, drop}
use Rattle.rules.specs.declared.Piece.{Piece}
use Rattle.rules.specs.declared.Record.{Record}
use Rattle.rules.specs.Event.{put, Event, write, check}
use Rattle.rules.specs.Writing.{events_of}
use Rattle.rules.specs.Stored.{Part, text, piece, part_events, two_of, entries_of, entries_taken, steps_of, steps_taken, sections, well_stored, loaded}
use Rattle.text.specs.Ran.{Ran}
use Rattle.sections.specs.Counted.{Agreed}
use Rattle.walk.specs.Stamp.{Front}

abbrev pub steps_left : List ℕ → ℕ → ℕ
steps_left s i = (length s - i) / 3

-- the parts that are left
abbrev pub parts_from : List ℕ → ℕ → ℕ → List Part
parts_from s i from =
    steps_of (steps_left s i) (drop i s) (entries_of (sections s).directives (sections s).from_directives) (take (2 + (sections s).literals - from) (drop from s))

-- whether the steps that are left are taken
abbrev pub taken_from : List ℕ → ℕ → ℕ → Bool
taken_from s i from = steps_taken (steps_left s i) (drop i s) (sections s).directives (2 + (sections s).literals - from)

-- how many literal bytes the step at i uses
abbrev pub used_at : List ℕ → ℕ → ℕ
used_at s i = cond (eqb (get_or s i 0) 0) (two_of (drop (i + 1) s)) 0

-- a step stands at i, or the end
pub record Standing (s : List ℕ) (i from : ℕ) : Type 0 where
  pub ends : length s ≡ i + steps_left s i * 3
  pub behind : 6 + (sections s).literals + (sections s).directives * 8 ≤ i
  pub starts : 2 ≤ from
  pub within : from ≤ 2 + (sections s).literals

-- the step at i is taken, p is its part, and it uses the literal bytes up to `to`
pub record Step (s : List ℕ) (i from to : ℕ) (p : Part) : Type 0 where
  pub taken : taken_from s i from ≡ taken_from s (i + 3) to
  pub parts : parts_from s i from ≡ p ∷ parts_from s (i + 3) to
  pub standing : Standing s (i + 3) to

-- the events of a part
abbrev pub events_in : (Piece → List Event) → Part → List Event
events_in events_for (text bytes) = write (put bytes) ∷ []
events_in events_for (piece p) = events_for p

-- the step at i has run
pub record PartRan (limit room : ℕ) (r : Record) (zone s : List ℕ) (i from : ℕ) (l : List ℕ) (n : ℕ) (l' : List ℕ) (n' : ℕ) : Type 0 where
  pub part : Part
  pub step : Step s i from (from + used_at s i) part
  pub ran : Ran limit room (events_in (events_of r zone) part) l n l' n'

-- the parts before the step at i came to place n, and their text stands in front of the list l. The form is well stored if the steps that are
-- left are taken
pub record Begun (limit room : ℕ) (r : Record) (zone s : List ℕ) (i from : ℕ) (l : List ℕ) (n : ℕ) : Type 0 where
  pub found : List Event
  pub rest : part_events (events_of r zone) (loaded s) ≡ found ++ part_events (events_of r zone) (parts_from s i from)
  pub taken : well_stored s ≡ taken_from s i from
  pub standing : Standing s i from
  pub front : Front limit room found l n

-- counts and bytes agree, and every directive is taken
pub record Sound (s : List ℕ) (l d : ℕ) : Type 0 where
  pub counts : Agreed s l d
  pub entries : entries_taken (sections s).directives (sections s).from_directives ≡ true

-- "BadStored (11), before any text"
abbrev pub all_events : Record → List ℕ → List ℕ → List Event
all_events r zone s = check (well_stored s) 11 ∷ part_events (events_of r zone) (loaded s)
