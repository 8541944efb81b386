-- The loop's invariant: the places from at + left on are written, and what is left of v has yet to come. The measure is how many are left.
use Rattle.std.specs.Prelude.{◌≡◌}
use mathlib.Core.Path.{refl}
use native.Mathlib.Omega.{arith}
use lib.ListN.{length-set}
use Rattle.numbers.proofs.PlacesLaws.{none, one_more, two_more, all, tens_byte, ones_byte}
use Rattle.numbers.proofs.write_places.Goals as goal

pub loop-left-init : goal.loop-left-init
loop-left-init c = let a = c.args in none a.out.now a.at a.count a.v c.requires

pub overflow_cast-out : goal.overflow_cast-out
overflow_cast-out c = omega (arith, c.pair-word.ensures)

pub bounds-out-at-in-loop-left : goal.bounds-out-at-in-loop-left
bounds-out-at-in-loop-left c = simp length-set (omega arith)

pub loop-left-preserved : goal.loop-left-preserved
loop-left-preserved c =
    let p = c.pair-word.ensures in
    two_more c.loop-left-test.true (ones_byte (omega arith) p) (tens_byte (omega arith) p) c.loop-left.invariant

pub shape_of-out-then-left-eq0 : goal.shape_of-out-then-left-eq0
shape_of-out-then-left-eq0 c = c.loop-left.invariant.long

pub returns-then-left-eq0 : goal.returns-then-left-eq0
returns-then-left-eq0 c = all c.if-left-eq0.true c.loop-left.invariant

pub shape_of-out : goal.shape_of-out
shape_of-out c = simp length-set c.loop-left.invariant.long

pub returns : goal.returns
returns c =
    let l = c.loop-left in
    let e : l.left ≡ 1 = omega arith in
    all (omega arith) (one_more (omega arith) (omega arith) refl l.invariant)
