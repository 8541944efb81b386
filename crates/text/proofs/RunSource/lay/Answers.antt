-- The part that the run takes is filled.
use mathlib.Core.Path.{◌∙◌, ap}
use Prim.Native.Nat.{ℕ, ◌+◌, ◌≤◌}
use native.Mathlib.Omega.{arith}
use lib.ListN.{length, replicate, length-replicate}
use borrow.Rule.Slice.PartMut.{mid_len}
use Rattle.text.proofs.OverlayLaws.{overlay_part}
use Rattle.text.proofs.RunSource.lay.Goals as goal

pub returns : goal.returns
returns c =
    let s = c.args.self in
    let l = c.args.out.now in
    let h : c.args.at + s.count ≤ length l = omega (arith, c.requires, length-replicate s.count s.byte) in
    overlay_part _ _ _ _ _
    (c.fill.ensures.after (λ y e. e) ∙ ap (λ (n : ℕ). replicate n s.byte) (mid_len c.args.at (c.args.at + s.count) l h ∙ omega arith))
    (simp length-replicate (omega arith))
    (omega (arith, h))
