-- The loop keeps that the bytes so far stand for themselves.
use mathlib.Core.Path.{sym, ◌∙◌}
use mathlib.Core.Logic.{⊎_elim}
use native.Mathlib.Omega.{arith}
use Rattle.reading.proofs.Positions.{items_at}
use Rattle.compiled.proofs.PartLaws.{on_echo, on_literals, ends_piece, ends_cut, ends_past}
use Rattle.compiled.proofs.parts.text_end.Goals as goal

pub returns-in-Directive : goal.returns-in-Directive
returns-in-Directive c =
    ⊎_elim (λ v. ends_piece _ c.loop-end.invariant c.if-format-end-eq37.true ((items_at _ _).percent c.loop-end-test.true c.if-format-end-eq37.true _ (sym c.parse_spec.ensures ∙ v.2)))
    (λ v. ends_cut _ c.loop-end.invariant c.if-format-end-eq37.true ((items_at _ _).percent c.loop-end-test.true c.if-format-end-eq37.true _ (sym c.parse_spec.ensures ∙ v))) c.in-Directive.is

pub loop-end-smaller-in-Echo : goal.loop-end-smaller-in-Echo
loop-end-smaller-in-Echo c =
    let part = (items_at _ _).percent c.loop-end-test.true c.if-format-end-eq37.true _ (sym c.parse_spec.ensures ∙ c.in-Echo.is) in
    omega arith

pub loop-end-preserved-in-Echo : goal.loop-end-preserved-in-Echo
loop-end-preserved-in-Echo c = on_echo _ _ c.loop-end.invariant ((items_at _ _).percent c.loop-end-test.true c.if-format-end-eq37.true _ (sym c.parse_spec.ensures ∙ c.in-Echo.is))

pub loop-end-smaller : goal.loop-end-smaller
loop-end-smaller c =
    let part = (items_at _ _).run c.loop-end-test.true c.if-format-end-eq37.false _ c.literal_end-end.ensures in
    omega arith

pub loop-end-preserved : goal.loop-end-preserved
loop-end-preserved c = on_literals _ _ c.loop-end.invariant ((items_at _ _).run c.loop-end-test.true c.if-format-end-eq37.false _ c.literal_end-end.ensures)

pub returns : goal.returns
returns c = ends_past _ c.loop-end.invariant c.loop-end-test.false
