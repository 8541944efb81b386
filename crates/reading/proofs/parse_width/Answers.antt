-- What is left, from the width so far, is read as the whole is from the first digit.
use mathlib.Core.Path.{◌≡◌, sym, ap, ◌∙◌}
use mathlib.Core.Bool.{not}
use native.Mathlib.Omega.{arith}
use Rattle.rules.specs.declared.Parsed.TheVariants.{Echo}
use Rattle.rules.specs.Reading.{open?}
use Rattle.reading.proofs.Laws.{by_turn, at_end, width_digit, width_wide, width_letter}
use Rattle.reading.proofs.parse_width.Goals as goal

pub width_with-width-requires : goal.width_with-width-requires
width_with-width-requires c = sym c.is_ascii_digit.ensures.value ∙ c.if-is_ascii_digit.true

pub loop-at-preserved : goal.loop-at-preserved
loop-at-preserved c =
    (by_turn _ _ _ c.loop-at-test.true _ (width_digit _ _ _ (sym c.is_ascii_digit.ensures.value ∙ c.if-is_ascii_digit.true) _ c.width_with-width.ensures) ∙ c.loop-at.invariant.0, omega arith)

pub returns-then-too_wide : goal.returns-then-too_wide
returns-then-too_wide c =
    by_turn _ _ _ c.loop-at-test.true _ (width_wide _ _ _ (sym c.is_ascii_digit.ensures.value ∙ c.if-is_ascii_digit.false) (sym c.too_wide.ensures ∙ c.if-too_wide.true))
    ∙ c.loop-at.invariant.0

pub returns-else-too_wide : goal.returns-else-too_wide
returns-else-too_wide c =
    c.parse_letter.ensures
    ∙ by_turn _ _ _ c.loop-at-test.true _ (width_letter _ _ _ (sym c.is_ascii_digit.ensures.value ∙ c.if-is_ascii_digit.false) (sym c.too_wide.ensures ∙ c.if-too_wide.false))
    ∙ c.loop-at.invariant.0

pub returns-then-too_wide-2 : goal.returns-then-too_wide-2
unfolding open?
returns-then-too_wide-2 c =
    let e : c.max.result ≡ c.loop-at.at = omega arith in
    ap Echo e ∙ at_end _ _ _ c.loop-at-test.false _ (ap not (sym c.too_wide-2.ensures ∙ c.if-too_wide-2.true)) ∙ c.loop-at.invariant.0

pub returns-else-too_wide-2 : goal.returns-else-too_wide-2
unfolding open?
returns-else-too_wide-2 c = at_end _ _ _ c.loop-at-test.false _ (ap not (sym c.too_wide-2.ensures ∙ c.if-too_wide-2.false)) ∙ c.loop-at.invariant.0
