-- What is left, with the options so far, is read as the whole is from the outset.
use mathlib.Core.Path.{refl, sym, ◌∙◌}
use Rattle.rules.specs.Reading.{open?}
use Rattle.reading.proofs.Laws.{by_turn, at_end, flags_flag, flags_digit, flags_letter}
use Rattle.reading.proofs.parse_spec.Goals as goal

pub loop-at-init : goal.loop-at-init
loop-at-init c = rw c.outset-options.ensures

pub width_with-requires : goal.width_with-requires
width_with-requires c = sym c.is_ascii_digit.ensures.value ∙ c.if-is_ascii_digit.true

pub returns-then-is_ascii_digit : goal.returns-then-is_ascii_digit
returns-then-is_ascii_digit c =
    c.parse_width.ensures
    ∙ by_turn _ _ _ c.loop-at-test.true _ (flags_digit _ _ _ c.flag_step.ensures c.in_default.is (sym c.is_ascii_digit.ensures.value ∙ c.if-is_ascii_digit.true) _ c.width_with.ensures)
    ∙ c.loop-at.invariant

pub returns-else-is_ascii_digit : goal.returns-else-is_ascii_digit
returns-else-is_ascii_digit c =
    c.parse_letter.ensures
    ∙ by_turn _ _ _ c.loop-at-test.true _ (flags_letter _ _ _ c.flag_step.ensures c.in_default.is (sym c.is_ascii_digit.ensures.value ∙ c.if-is_ascii_digit.false))
    ∙ c.loop-at.invariant

pub loop-at-preserved : goal.loop-at-preserved
loop-at-preserved c = by_turn _ _ _ c.loop-at-test.true _ (flags_flag _ _ _ c.flag_step.ensures _ c.in-Some.is) ∙ c.loop-at.invariant

pub returns : goal.returns
unfolding open?
returns c = at_end _ _ _ c.loop-at-test.false _ refl ∙ c.loop-at.invariant
