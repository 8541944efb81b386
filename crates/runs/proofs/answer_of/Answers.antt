-- By the three cases.
use Rattle.rules.proofs.HeldWays.{answer_refused, answer_done, answer_more}
use Rattle.runs.proofs.answer_of.Goals as goal

pub returns-then-s-ne0 : goal.returns-then-s-ne0
returns-then-s-ne0 c = answer_refused _ _ _ c.if-s-ne0.true _ c.refusal_of.ensures

pub returns-then-s : goal.returns-then-s
returns-then-s c = answer_done _ _ _ c.if-s-ne0.false c.if-s.true

pub returns : goal.returns
returns c = answer_more _ _ _ c.if-s-ne0.false c.if-s.false
