-- Three times two digits.
use mathlib.Core.List.{flatten}
use Rattle.combination_directive.proofs.clock_text.Goals as goal

pub returns : goal.returns
unfolding flatten
returns c = rw (← c.two_digits-h.ensures, ← c.two_digits-m.ensures, ← c.two_digits-s.ensures)
