-- The two fields are checked one after the other.
use Rattle.fields.proofs.Laws.{two_held, two_failed}
use Rattle.combination_directive.proofs.hour_and_minute.Goals as goal

pub returns-then-hour : goal.returns-then-hour
returns-then-hour c = λ zone. two_held _ zone _ _ (c.hour.ensures zone) c.if-hour.true (c.minute.ensures zone)

pub returns-else-hour : goal.returns-else-hour
returns-else-hour c = λ zone. two_failed _ zone _ _ (c.hour.ensures zone) c.if-hour.false
