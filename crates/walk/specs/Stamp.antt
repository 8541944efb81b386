-- A stamp by way of a scratch: what stands in the scratch between two items, and what the stamp promises.
use Rattle.std.specs.Prelude.{◌≡◌, List, ◌++◌, map, ℕ, ◌+◌, ◌-◌, ◌≤◌, length, take, drop}
use Rattle.rules.specs.declared.Record.{Record}
use Rattle.rules.specs.Event.{Event, text_of, at, tally, run, buffer_after}
use Rattle.rules.specs.Record.{longest_format, longest_buffer}
use Rattle.rules.specs.Writing.{events_of}
use Rattle.rules.specs.Format.{Item, literal, between, read, items, events, limit_of}
use Rattle.text.specs.Ran.{count_at}
use Rattle.text.specs.Overlay.{overlay}

-- the literal bytes of the format from position i up to e were copied to the list l, from place n on
pub record Copied (format : List ℕ) (i : ℕ) (l : List ℕ) (n : ℕ) (l' : List ℕ) (e : ℕ) : Type 0 where
  pub onward : i ≤ e
  pub within : e ≤ length format
  pub literals : read between (drop i format) ≡ map literal (take (e - i) (drop i format)) ++ read between (drop e format)
  pub inside : n + (e - i) ≤ length l
  pub text : l' ≡ overlay n (take (e - i) (drop i format)) l

-- the events came to place n, and their text stands in front of the list l
pub record Front (limit room : ℕ) (es : List Event) (l : List ℕ) (n : ℕ) : Type 0 where
  pub count : tally limit room es (at 0) ≡ at n
  pub inside : n ≤ length l
  pub text : take n l ≡ text_of es

-- the events of the items before position i of the format did
pub record Begun (limit room : ℕ) (r : Record) (zone format : List ℕ) (i : ℕ) (l : List ℕ) (n : ℕ) : Type 0 where
  pub found : List Item
  pub rest : items format ≡ found ++ read between (drop i format)
  pub within : i ≤ length format
  pub front : Front limit room (events (events_of r zone) found) l n

-- the lengths of what is lent
pub record Lengths (format scratch buffer : List ℕ) : Type 0 where
  pub format_fits : length format ≤ longest_format
  pub scratch_fits : length scratch ≤ length buffer
  pub buffer_fits : length buffer ≤ longest_buffer

-- from the scratch l and the buffer b: n is the place that the events come to in a room as long as b, and b' the buffer afterwards; the scratch
-- has any bytes, as many as it had
pub record Stamped (limit : ℕ) (es : List Event) (l b l' b' : List ℕ) (n : ℕ) : Type 0 where
  pub count : count_at n ≡ tally limit (length b) es (at 0)
  pub buffer : b' ≡ buffer_after (run limit (length b) es) b
  pub scratch : length l' ≡ length l

-- the same of all of a format
abbrev pub StampedBy : Record → List ℕ → List ℕ → List ℕ → List ℕ → List ℕ → List ℕ → ℕ → Type 0
StampedBy r zone format = Stamped (limit_of (length format)) (events (events_of r zone) (items format))
