-- What is kept is the smaller, and the number is known.
use mathlib.Core.Path.{sym, ap, ◌∙◌}
use Prim.Native.Nat.{ℕ, min}
use Rattle.rules.proofs.HeldWays.{numbers_read}
use Rattle.runs.proofs.as_read.Goals as goal

pub returns : goal.returns
returns c l e =
    numbers_read c.args.s l _ _ (c.min.ensures ∙ ap (λ (n : ℕ). min c.args.s.kept n) (sym e)) c.known.ensures
