-- The loop keeps `Stamping`. An item that ends within the scratch is one of its steps; from any other, `rest` goes on.
use Rattle.text.proofs.RanLaws.{before, kept}
use Rattle.letters.proofs.LetterLaws.{left_alone, length_left, ended_within, front_left}
use Rattle.walk.proofs.LetterLaws.{step_plain, step_unread}
use Rattle.walk.proofs.LiteralLaws.{copied_kept, copied_before}
use Rattle.walk.proofs.StampLaws.{stamping_start, stamping_room, stamping_item, stamping_literals, handed_over, stamping_end}
use Rattle.walk.proofs.stamp.Goals as goal

pub loop-i-init : goal.loop-i-init
loop-i-init c = stamping_start

pub loop-i-preserved-then-place-out : goal.loop-i-preserved-then-place-out
loop-i-preserved-then-place-out c =
    let w = c.loop-i.invariant in
    stamping_item c.requires w _ (step_plain c.if-format-i-eq37.true c.byte_at-b.ensures (ended_within c.letter-place.ensures (stamping_room c.requires w) c.if-place-out.true)) c.if-place-out.true

pub rest-requires : goal.rest-requires
rest-requires c =
    let w = step_unread (left_alone c.letter-place.ensures c.requires.buffer_fits c.if-place-eq-NOT_A_LETTER.true) c.marked_item-step.ensures in
    handed_over c.requires c.loop-i.invariant (before w.ran) (kept w.ran) c.limit_of-limit.ensures

pub loop-i-preserved-then-place-eq-NOT_A_LETTER : goal.loop-i-preserved-then-place-eq-NOT_A_LETTER
loop-i-preserved-then-place-eq-NOT_A_LETTER c =
    stamping_item c.requires c.loop-i.invariant _ (step_unread (left_alone c.letter-place.ensures c.requires.buffer_fits c.if-place-eq-NOT_A_LETTER.true) c.marked_item-step.ensures) c.if-out-step.false

pub rest-requires-else-place-eq-NOT_A_LETTER : goal.rest-requires-else-place-eq-NOT_A_LETTER
rest-requires-else-place-eq-NOT_A_LETTER c =
    handed_over c.requires c.loop-i.invariant (front_left c.letter-place.ensures) (length_left c.letter-place.ensures) c.limit_of-limit.ensures

pub rest-requires-then-end-i : goal.rest-requires-then-end-i
rest-requires-then-end-i c =
    handed_over c.requires c.loop-i.invariant (copied_before c.copy_literal-end.ensures) (copied_kept c.copy_literal-end.ensures) c.limit_of-limit.ensures

pub loop-i-preserved : goal.loop-i-preserved
loop-i-preserved c = stamping_literals c.requires c.loop-i.invariant c.copy_literal-end.ensures c.if-end-i.false

pub returns : goal.returns
returns c = stamping_end c.requires c.loop-i.invariant c.loop-i-test.false c.limit_of-limit.ensures c.copy_front.ensures
