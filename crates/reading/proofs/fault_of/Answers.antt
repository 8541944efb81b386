-- What is left of the format has the fault of all of it.
use mathlib.Core.Path.{refl, sym, ◌∙◌}
use native.Mathlib.Omega.{arith}
use Rattle.rules.specs.Refusal.{number_of, number_in_check}
use Rattle.rules.specs.Format.{fault}
use Rattle.reading.proofs.Positions.{items_at}
use Rattle.reading.proofs.Faults.{fault_part, fault_run, fault_last}
use Rattle.reading.proofs.fault_of.Goals as goal

pub loop-at-init : goal.loop-at-init
loop-at-init c = refl

pub loop-at-smaller-in-Directive : goal.loop-at-smaller-in-Directive
loop-at-smaller-in-Directive c =
    let part = (items_at _ _).percent c.loop-at-test.true c.if-format-at-eq37.true _ (sym c.parse_spec-parsed.ensures ∙ c.in-Directive.is) in
    omega arith

pub loop-at-preserved-in-Directive : goal.loop-at-preserved-in-Directive
unfolding fault
loop-at-preserved-in-Directive c =
    fault_part _ _ _ _ ((items_at _ _).percent c.loop-at-test.true c.if-format-at-eq37.true _ (sym c.parse_spec-parsed.ensures ∙ c.in-Directive.is)) refl
    ∙ c.loop-at.invariant

pub loop-at-smaller-in-Echo : goal.loop-at-smaller-in-Echo
loop-at-smaller-in-Echo c =
    let part = (items_at _ _).percent c.loop-at-test.true c.if-format-at-eq37.true _ (sym c.parse_spec-parsed.ensures ∙ c.in-Echo.is) in
    omega arith

pub loop-at-preserved-in-Echo : goal.loop-at-preserved-in-Echo
unfolding fault
loop-at-preserved-in-Echo c =
    fault_part _ _ _ _ ((items_at _ _).percent c.loop-at-test.true c.if-format-at-eq37.true _ (sym c.parse_spec-parsed.ensures ∙ c.in-Echo.is)) refl
    ∙ c.loop-at.invariant

pub returns-in-Cut : goal.returns-in-Cut
unfolding fault number_in_check number_of
returns-in-Cut c =
    fault_last _ _ _ ((items_at _ _).percent c.loop-at-test.true c.if-format-at-eq37.true _ (sym c.parse_spec-parsed.ensures ∙ c.in-Cut.is))
    ∙ c.loop-at.invariant

pub loop-at-smaller : goal.loop-at-smaller
loop-at-smaller c =
    let part = (items_at _ _).run c.loop-at-test.true c.if-format-at-eq37.false _ c.literal_end-at.ensures in
    omega arith

pub loop-at-preserved : goal.loop-at-preserved
loop-at-preserved c = fault_run _ _ _ ((items_at _ _).run c.loop-at-test.true c.if-format-at-eq37.false _ c.literal_end-at.ensures) ∙ c.loop-at.invariant

pub returns : goal.returns
unfolding fault number_in_check
returns c = fault_last _ _ _ ((items_at _ _).past c.loop-at-test.false) ∙ c.loop-at.invariant
