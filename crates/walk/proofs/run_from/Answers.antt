-- The loop keeps `Walked`; each turn is one of its steps.
use native.Mathlib.Omega.{arith}
use Rattle.text.proofs.RanLaws.{room_kept}
use Rattle.reading.proofs.Positions.{items_at}
use Rattle.letters.proofs.LetterLaws.{was_letter, left_alone}
use Rattle.walk.proofs.LetterLaws.{step_plain, step_unread}
use Rattle.walk.proofs.WalkLaws.{walk_start, walk_item, walk_literals, walk_end}
use Rattle.walk.proofs.run_from.Goals as goal

pub loop-i-init : goal.loop-i-init
loop-i-init c = walk_start c.requires.1

pub loop-i-preserved-then-place-ne-NOT_A_LETTER : goal.loop-i-preserved-then-place-ne-NOT_A_LETTER
loop-i-preserved-then-place-ne-NOT_A_LETTER c = walk_item _ c.loop-i.invariant (step_plain c.if-format-i-eq37.true c.byte_at-b.ensures (was_letter c.letter-place.ensures c.if-place-ne-NOT_A_LETTER.true))

pub loop-i-preserved-else-place-ne-NOT_A_LETTER : goal.loop-i-preserved-else-place-ne-NOT_A_LETTER
loop-i-preserved-else-place-ne-NOT_A_LETTER c = walk_item _ c.loop-i.invariant (step_unread (left_alone c.letter-place.ensures c.requires.0.small c.if-place-ne-NOT_A_LETTER.false) c.marked_item-step.ensures)

pub put_part-at-requires : goal.put_part-at-requires
put_part-at-requires c =
    let q = (items_at _ _).run c.loop-i-test.true c.if-format-i-eq37.false _ c.literal_end-end.ensures in
    (room_kept c.loop-i.invariant.ran c.requires.0, omega (arith, q.onward), q.within)

pub loop-i-smaller : goal.loop-i-smaller
loop-i-smaller c =
    let q = (items_at _ _).run c.loop-i-test.true c.if-format-i-eq37.false _ c.literal_end-end.ensures in
    omega (arith, q.onward, q.within)

pub loop-i-preserved : goal.loop-i-preserved
loop-i-preserved c = walk_literals c.loop-i.invariant ((items_at _ _).run c.loop-i-test.true c.if-format-i-eq37.false _ c.literal_end-end.ensures) (c.put_part-at.ensures _)

pub returns : goal.returns
returns c = walk_end c.loop-i-test.false c.loop-i.invariant
