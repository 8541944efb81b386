-- What every writer requires of the slice that it is lent.
use Rattle.std.specs.Prelude.{List, ℕ, ◌≤◌, length}
use Rattle.rules.specs.Record.{longest_buffer}

-- the list has at most `room` bytes, and the room is at most the longest buffer
pub record Room (l : List ℕ) (room : ℕ) : Type 0 where
  pub within : length l ≤ room
  pub small : room ≤ longest_buffer
