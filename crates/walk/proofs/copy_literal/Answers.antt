-- The loop keeps `Copied`, and its place is as far on as its position.
use native.Mathlib.Omega.{arith}
use Rattle.walk.proofs.LiteralLaws.{copied_none, copied_kept, copied_more}
use Rattle.walk.proofs.copy_literal.Goals as goal

pub loop-i-init : goal.loop-i-init
loop-i-init c = (copied_none c.requires.1 c.requires.0, omega arith)

pub returns-then-format-i-eq37 : goal.returns-then-format-i-eq37
returns-then-format-i-eq37 c = c.loop-i.invariant.0

pub bounds-out-at : goal.bounds-out-at
bounds-out-at c = omega arith

pub overflow_add-at : goal.overflow_add-at
overflow_add-at c = omega arith

pub loop-i-preserved : goal.loop-i-preserved
loop-i-preserved c =
    let w = c.loop-i.invariant in
    let more = copied_more w.0 c.loop-i-test.true c.if-format-i-eq37.false w.1 (omega (arith, copied_kept w.0)) in
    (more, omega (arith, w.0.onward, w.1))

pub returns-else-at-out : goal.returns-else-at-out
returns-else-at-out c = c.loop-i.invariant.0

pub returns-after-loop-i : goal.returns-after-loop-i
returns-after-loop-i c = c.loop-i.invariant.0
