-- The loop keeps `Scanned`; it ends at what is pending, or at the end of the text.
use native.Mathlib.Omega.{arith}
use Rattle.reading.proofs.Positions.{items_at}
use Rattle.pending.proofs.ScanLaws.{scan_literals, scan_end}
use Rattle.pending.proofs.pending_from.Goals as goal

pub loop-i-smaller : goal.loop-i-smaller
loop-i-smaller c =
    let part = (items_at _ _).run c.loop-i-test.true c.if-text-i-eq37.false _ c.literal_end-i.ensures in
    omega (arith, part.onward, part.within)

pub loop-i-preserved : goal.loop-i-preserved
loop-i-preserved c =
    let part = (items_at _ _).run c.loop-i-test.true c.if-text-i-eq37.false _ c.literal_end-i.ensures in
    scan_literals c.loop-i.invariant c.literal_end-i.ensures part.within

pub returns : goal.returns
returns c = scan_end c.loop-i.invariant c.loop-i-test.false
