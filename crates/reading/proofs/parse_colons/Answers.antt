-- What is left, from the colons so far, is read as the whole is from the first.
use mathlib.Core.Path.{◌≡◌, refl, ap, ◌∙◌}
use native.Mathlib.Omega.{arith}
use Rattle.rules.specs.declared.Parsed.TheVariants.{Echo}
use Rattle.rules.specs.Reading.{open?}
use Rattle.reading.proofs.Laws.{by_turn, by_entry, at_end, colons_more, colons_offset, colons_other}
use Rattle.reading.proofs.parse_colons.Goals as goal

pub loop-at-preserved : goal.loop-at-preserved
loop-at-preserved c = (by_turn _ _ _ c.loop-at-test.true _ (colons_more _ _ _ _ c.if-b-eq58.true _ c.min-colons.ensures) ∙ c.loop-at.invariant.0, omega arith, omega arith)

pub returns-then-b-eq122 : goal.returns-then-b-eq122
returns-then-b-eq122 c =
    c.enter.ensures
    ∙ by_entry _ _ _ _ _ _ _ c.colon_entry.ensures _ (colons_offset _ _ _ _ c.if-b-eq58.false c.if-b-eq122.true)
    ∙ by_turn _ _ _ c.loop-at-test.true _ refl
    ∙ c.loop-at.invariant.0

pub returns-else-b-eq122 : goal.returns-else-b-eq122
returns-else-b-eq122 c = by_turn _ _ _ c.loop-at-test.true _ (colons_other _ _ _ _ c.if-b-eq58.false c.if-b-eq122.false) ∙ c.loop-at.invariant.0

pub returns : goal.returns
unfolding open?
returns c =
    let e : c.max.result ≡ c.loop-at.at = omega arith in
    ap Echo e ∙ at_end _ _ _ c.loop-at-test.false _ refl ∙ c.loop-at.invariant.0
