-- The loop keeps that the parts so far have been written; no directive has a greater index than its position.
use native.Mathlib.Omega.{arith}
use Rattle.compiled.proofs.SectionLaws.{walk_start, walk_text, walk_piece, walk_end}
use Rattle.compiled.proofs.put.put_section.Goals as goal

pub loop-next-init : goal.loop-next-init
loop-next-init g c = (omega arith, omega arith, walk_start)

pub loop-next-preserved-in-Text : goal.loop-next-preserved-in-Text
loop-next-preserved-in-Text g c =
    let h = c.in-Some.ensures in
    let t = rw c.in-Text.is at h in
    let w = c.loop-next.invariant in
    (omega (arith, t.onward), t.within, walk_text w.2 t c.put_text-at.ensures)

pub loop-next-preserved : goal.loop-next-preserved
loop-next-preserved g c =
    let h = c.in-Some.ensures in
    let t = rw c.in-Directive.is at h in
    let w = c.loop-next.invariant in
    (omega (arith, t.onward), t.within, walk_piece w.2 t c.put_piece-at.ensures)

pub returns : goal.returns
returns g c = walk_end c.loop-next.invariant.2 c.in_default.ensures
