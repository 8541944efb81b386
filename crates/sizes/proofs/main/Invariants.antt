-- No more answers are as they should be than were asked.
use Rattle.std.proofs.Common.{◌≤◌}
use Rattle.sizes.proofs.main.Given as goal

abbrev pub invariant-loop-format : goal.invariant-loop-format
invariant-loop-format l = l.right ≤ l.format-index
