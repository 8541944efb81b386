-- The byte is skipped to or left unread, or the format ends.
use mathlib.Core.Path.{refl, sym, ◌∙◌}
use Rattle.rules.specs.Reading.{open?}
use Rattle.reading.proofs.Laws.{by_turn, by_entry, at_end, modifier_skipped, modifier_stays}
use Rattle.reading.proofs.parse_modified.Goals as goal

pub returns-then-skips : goal.returns-then-skips
returns-then-skips c =
    c.enter.ensures
    ∙ by_entry _ _ _ _ _ _ _ c.spec_of.ensures _ (modifier_skipped _ _ _ _ (sym c.skips.ensures ∙ c.if-skips.true))
    ∙ by_turn _ _ _ c.if-at-format.true _ refl

pub returns-else-skips : goal.returns-else-skips
returns-else-skips c = by_turn _ _ _ c.if-at-format.true _ (modifier_stays _ _ _ _ (sym c.skips.ensures ∙ c.if-skips.false))

pub returns-else-at-format : goal.returns-else-at-format
unfolding open?
returns-else-at-format c = at_end _ _ _ c.if-at-format.false _ refl
