-- One arm a kind.
use mathlib.Core.Path.{ap, ◌∙◌}
use Prim.Native.Nat.{ℕ}
use Rattle.rules.specs.Writing.{width_or, events_of}
use Rattle.number_directive.proofs.FractionLaws.{fraction_run}
use Rattle.directive.proofs.KindLaws.{by_kind}
use Rattle.directive.proofs.directive.Goals as goal

pub returns-in-Fraction : goal.returns-in-Fraction
unfolding events_of
returns-in-Fraction c =
    let p = c.args.piece in
    by_kind p _ _ c.in-Fraction.is
    (fraction_run _ p _ _ (c.unwrap_or.ensures ∙ ap (λ (n : ℕ). width_or p.width n) c.fraction_digits.ensures) (c.fraction.ensures _ _))
