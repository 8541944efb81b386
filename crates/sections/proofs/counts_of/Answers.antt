-- The counts one by one.
use native.Mathlib.Omega.{arith}
use Rattle.sections.proofs.CountLaws.{none_there, short_literals, short_directives, left_over, agree, disagree}
use Rattle.sections.proofs.counts_of.Goals as goal

pub returns-in_err-left : goal.returns-in_err-left
returns-in_err-left c = disagree _ c.from_residual.ensures (none_there _ (omega (arith, c.in_err-left.ensures)))

pub returns-in_err-left-2 : goal.returns-in_err-left-2
returns-in_err-left-2 c =
    disagree _ c.from_residual-in_err-left-2.ensures (short_literals _ c.two_at-literals.ensures.same (omega (arith, c.in_ok-left.ensures, c.in_err-left-2.ensures)))

pub returns-in_err-left-3 : goal.returns-in_err-left-3
returns-in_err-left-3 c =
    disagree _ c.from_residual-in_err-left-3.ensures
    (short_directives _ c.two_at-literals.ensures.same c.two_at-directives.ensures.same (omega (arith, c.in_ok-left.ensures, c.in_ok-left-2.ensures, c.in_err-left-3.ensures)))

pub returns-then-left-steps : goal.returns-then-left-steps
returns-then-left-steps c =
    left_over _ c.two_at-literals.ensures.same c.two_at-directives.ensures.same c.two_at-steps.ensures.same
    (λ e. omega (arith, c.in_ok-left.ensures, c.in_ok-left-2.ensures, c.in_ok-left-3.ensures, c.if-left-steps.true, e))

pub returns : goal.returns
returns c =
    agree _ c.two_at-literals.ensures.same c.two_at-directives.ensures.same c.two_at-steps.ensures.same
    (omega (arith, c.in_ok-left.ensures, c.in_ok-left-2.ensures, c.in_ok-left-3.ensures, c.if-left-steps.false))
