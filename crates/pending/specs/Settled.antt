-- What stands at a percent sign of a text that may go on.
use Rattle.std.specs.Prelude.{Option, Some, None, List, ℕ, ◌≤◌, ◌<◌, length}
use Rattle.rules.proofs.PendingEcho.{Passes, Pends}

-- it ends at `next`
pub record Closed (text : List ℕ) (i next : ℕ) : Type 0 where
  pub onward : i < next
  pub within : next ≤ length text
  pub passes : Passes text i next

-- so it does; or all from i on is pending
abbrev pub Settled : List ℕ → ℕ → Option ℕ → Type 0
Settled text i (Some next) = Closed text i next
Settled text i None = Pends text i
