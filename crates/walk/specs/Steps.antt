-- What one step of the walk over a format does.
use Rattle.std.specs.Prelude.{◌≡◌, List, ◌++◌, ℕ, ◌≤◌, ◌<◌, length, drop}
use Rattle.rules.specs.declared.Record.{Record}
use Rattle.rules.specs.Writing.{events_of}
use Rattle.rules.specs.Format.{Item, between, read, events}
use Rattle.text.specs.Ran.{Ran}
use Rattle.walk.specs.declared.Step.{Step}

-- from position i of the format and place n, over the list l: some items, the first of what is left, were run
pub record Stepped (limit room : ℕ) (r : Record) (zone format : List ℕ) (i : ℕ) (l : List ℕ) (n : ℕ) (l' : List ℕ) (s : Step) : Type 0 where
  pub found : List Item
  pub items : read between (drop i format) ≡ found ++ read between (drop s.next format)
  pub onward : i < s.next
  pub within : s.next ≤ length format
  pub ran : Ran limit room (events (events_of r zone) found) l n l' s.at
