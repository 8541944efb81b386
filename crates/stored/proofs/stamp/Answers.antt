-- The loop keeps `Stamping`. A step that ends within the scratch is one of its turns; from any other, `rest` goes on. A step that isn't taken is 11.
use mathlib.Core.Path.{◌≡◌}
use mathlib.Core.Logic.{⊎_elim}
use Prim.Native.Nat.{◌+◌, ◌*◌}
use native.Mathlib.Omega.{arith}
use Rattle.std.proofs.Common.{add-zero}
use Rattle.text.proofs.RanLaws.{before, kept}
use Rattle.stored.proofs.CopyLaws.{part_length}
use Rattle.stored.proofs.StepLaws.{text_bad, text_step, no_step, piece_bad, piece_step}
use Rattle.stored.proofs.StampLaws.{stamping_start, stamping_bad, stamping_text, stamping_piece, handed_over, stamping_end}
use Rattle.stored.proofs.stamp.Goals.{then-stored-i-eq0+else-counts-from+else-not-copy_text, else-stored-i-eq0+else-stored-i-ne1+else-counts-n+else-out-place}
use Rattle.stored.proofs.stamp.Goals as goal

pub loop-step-init : goal.loop-step-init
loop-step-init c = rw (add-zero, c.steps_at-start.ensures) (stamping_start c.requires.1)

pub returns-then-counts-from : goal.returns-then-counts-from
returns-then-counts-from c =
    let w = c.loop-step.invariant in
    stamping_bad c.requires.0 w (text_bad w.begun.standing (omega arith) c.two_at-n.ensures.same c.if-stored-i-eq0.true (omega (arith, c.if-counts-from.true, c.requires.1.counts.literals))) c.refused_at.ensures

pub returns-then-stored-i-ne1 : goal.returns-then-stored-i-ne1
returns-then-stored-i-ne1 c =
    let w = c.loop-step.invariant in
    ⊎_elim (λ v. stamping_bad c.requires.0 w (no_step w.begun.standing (omega arith) c.two_at-n.ensures.same c.if-stored-i-eq0.false v) c.refused_at-then-stored-i-ne1.ensures)
    (λ v. stamping_bad c.requires.0 w (piece_bad w.begun.standing (omega arith) c.two_at-n.ensures.same v.0 (omega (arith, v.1, c.requires.1.counts.directives))) c.refused_at-then-stored-i-ne1.ensures) c.then-stored-i-ne1.either

pub rest-requires-then-out-place : goal.rest-requires-then-out-place
rest-requires-then-out-place c = let v = c.entry_directive-place.ensures in handed_over c.requires.0 c.loop-step.invariant c.requires.1.counts (before v) (kept v)

pub loop-step-preserved : goal.loop-step-preserved
loop-step-preserved c =
    let w = c.loop-step.invariant in
    let a = c.requires.1.counts in
    let n = c.two_at-n.ensures.same in
    let next : c.steps_at-start.result + (c.loop-step.step + 1) * 3 ≡ c.steps_at-start.result + c.loop-step.step * 3 + 3 = omega arith in
    let long = part_length c.two_at-n.result c.loop-step.from c.args.stored.now in
    elim c.if-stored-i-eq0.branch [
      | then-stored-i-eq0+else-counts-from+else-not-copy_text v ↦
          rw (next, v.out-is, v.at-is, v.from-is)
          (stamping_text c.requires.0 w (text_step w.begun.standing (omega arith) n v.if-stored-i-eq0.true (omega (arith, a.literals, v.if-counts-from.false))) v.copy_text.ensures v.if-not-copy_text.false (omega (arith, long (omega (arith, w.begun.standing.within, a.literals, a.bytes, v.if-counts-from.false)))))
      | else-stored-i-eq0+else-stored-i-ne1+else-counts-n+else-out-place v ↦
          rw (next, v.out-is, v.at-is, v.from-is)
          (stamping_piece c.requires.0 w (piece_step w.begun.standing (omega arith) n v.if-stored-i-ne1.false a v.if-counts-n.false) (rw v.entry_at-entry.ensures at v.entry_directive-place.ensures) v.if-out-place.false)
    ]

pub returns : goal.returns
returns c = stamping_end c.requires.0 c.loop-step.invariant (omega (arith, c.steps_at-start.ensures, c.requires.1.counts.bytes)) c.copy_front.ensures
