-- Refused: the count says so, and the buffer was never lent. Else the front is copied, and the second run comes to the same place.
use Rattle.text.proofs.PlaceLaws.{refused_yes, refused_no}
use Rattle.walk.proofs.StampLaws.{rest_refused, rest_written}
use Rattle.walk.proofs.rest.Goals as goal

pub returns-then-is_refused : goal.returns-then-is_refused
returns-then-is_refused c =
    rest_refused c.requires.0 c.requires.1 (rw c.limit_of-limit.ensures at c.run_from-end.ensures) (refused_yes _ c.is_refused.ensures c.if-is_refused.true)

pub returns : goal.returns
returns c =
    let limit = c.limit_of-limit.ensures in
    rest_written c.requires.0 c.requires.1 (rw limit at c.run_from-end.ensures) (refused_no _ c.is_refused.ensures c.if-is_refused.false) c.copy_front.ensures (rw limit at c.run_from.ensures)
