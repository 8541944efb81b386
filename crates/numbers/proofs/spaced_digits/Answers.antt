-- A space and a digit below 10, else the two digits.
use mathlib.Core.Path.{refl, sym, ◌∙◌}
use Rattle.rules.proofs.DecimalLaws.{two_is, day_text_small, day_text_large}
use Rattle.numbers.proofs.spaced_digits.Goals as goal

pub returns-then-v-lt10 : goal.returns-then-v-lt10
returns-then-v-lt10 c = sym (day_text_small _ c.if-v-lt10.true)

pub returns-else-v-lt10 : goal.returns-else-v-lt10
returns-else-v-lt10 c =
    let h = c.requires in
    c.two_digits.ensures ∙ sym (two_is _ h refl refl) ∙ sym (day_text_large _ c.if-v-lt10.false h)
