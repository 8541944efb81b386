-- The loop keeps that the parts so far have been written; no directive has a greater index than its position.
use Prim.Native.Nat.{◌-◌, ◌≤◌}
use lib.ListN.{length}
use Rattle.compiled.proofs.SectionLaws.{Walked}
use Rattle.compiled.proofs.put.put_section.Given as goal

abbrev pub invariant-loop-next : goal.invariant-loop-next
invariant-loop-next g l = (l.index ≤ l.i) × (l.i ≤ length l.format) × Walked l.room g.S.Section.which l.format l.initial.out l.start l.index l.i l.out l.at

abbrev pub decreases-loop-next : goal.decreases-loop-next
decreases-loop-next g l = length l.format - l.i
