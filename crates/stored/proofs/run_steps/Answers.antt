-- The loop keeps `Walked`; each turn is one of its steps.
use mathlib.Core.Path.{◌≡◌}
use Prim.Native.Nat.{◌+◌, ◌*◌}
use native.Mathlib.Omega.{arith}
use Rattle.std.proofs.Common.{add-zero}
use Rattle.stored.proofs.StepLaws.{walk_start, walk_on, walk_end}
use Rattle.stored.proofs.run_steps.Goals as goal

pub loop-n-init : goal.loop-n-init
loop-n-init c = rw add-zero (walk_start c.requires.2 c.requires.3)

pub loop-n-preserved : goal.loop-n-preserved
loop-n-preserved c =
    let next : c.args.step + (c.loop-n.n + 1) * 3 ≡ c.args.step + c.loop-n.n * 3 + 3 = omega arith in
    rw next (walk_on c.loop-n.invariant c.run_part-at.ensures c.used_at-from.ensures)

pub returns : goal.returns
returns c = walk_end c.loop-n.invariant (omega (arith, c.requires.2.ends))
