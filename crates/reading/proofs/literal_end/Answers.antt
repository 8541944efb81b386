-- From each byte before the percent sign the run ends where it ends from the first.
use mathlib.Core.Path.{◌≡◌, ◌∙◌}
use native.Mathlib.Omega.{arith}
use Rattle.reading.proofs.Positions.{literal_none, literal_more, literal_past}
use Rattle.reading.proofs.literal_end.Goals as goal

pub returns-then-format-at-eq37 : goal.returns-then-format-at-eq37
returns-then-format-at-eq37 c = literal_none _ _ c.loop-at-test.true c.if-format-at-eq37.true ∙ c.loop-at.invariant.0

pub loop-at-preserved : goal.loop-at-preserved
loop-at-preserved c = (literal_more _ _ c.loop-at-test.true c.if-format-at-eq37.false ∙ c.loop-at.invariant.0, omega arith)

pub returns : goal.returns
returns c =
    let e : c.max.result ≡ c.loop-at.at = omega arith in
    e ∙ literal_past _ _ c.loop-at-test.false ∙ c.loop-at.invariant.0
