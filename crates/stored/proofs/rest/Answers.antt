-- The steps that are left are not taken; or the rest is refused, and the buffer was never lent; or the front is copied, and the second run comes to
-- the same place.
use mathlib.Core.Path.{sym, ◌∙◌}
use Rattle.text.proofs.PlaceLaws.{refused_yes, refused_no}
use Rattle.stored.proofs.StepLaws.{taken_by}
use Rattle.stored.proofs.StampLaws.{rest_bad, rest_refused, rest_written}
use Rattle.stored.proofs.rest.Goals as goal

pub returns-then-not-steps_taken : goal.returns-then-not-steps_taken
returns-then-not-steps_taken c =
    let p = c.requires in
    rest_bad p.0 p.2 (sym (taken_by _ _ p.1 c.steps_taken.ensures) ∙ c.if-not-steps_taken.true) c.refused_at.ensures

pub returns-then-is_refused : goal.returns-then-is_refused
returns-then-is_refused c =
    let p = c.requires in
    rest_refused p.0 p.2 (sym (taken_by _ _ p.1 c.steps_taken.ensures) ∙ c.if-not-steps_taken.false) c.run_steps-end.ensures (refused_yes _ c.is_refused.ensures c.if-is_refused.true)

pub returns : goal.returns
returns c =
    let p = c.requires in
    rest_written p.0 p.2 (sym (taken_by _ _ p.1 c.steps_taken.ensures) ∙ c.if-not-steps_taken.false) c.run_steps-end.ensures (refused_no _ c.is_refused.ensures c.if-is_refused.false) c.copy_front.ensures c.run_steps.ensures
