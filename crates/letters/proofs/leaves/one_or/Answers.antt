-- The check, and one digit.
use Prim.Native.Nat.{◌<◌}
use native.Mathlib.Omega.{arith}
use lib.Dec.{lit≤}
use Rattle.text.proofs.JudgedLaws.{check_held}
use Rattle.letters.proofs.LeafLaws.{refused, written, one_digit}
use Rattle.letters.proofs.leaves.one_or.Goals as goal
use Rattle.letters.proofs.leaves.one_or.Goals.{In_default}

few : (c : In_default) → c.args.v < 10
few c = c.requires.1 (check_held _ c.verdict.ensures c.in_default.is)

pub returns-in-Err : goal.returns-in-Err
returns-in-Err c = refused _ _ _ _ c.verdict.ensures c.in-Err.is c.refused_at.ensures

pub overflow_add-v : goal.overflow_add-v
overflow_add-v c = omega (arith, few (goal.at.overflow_add-v c).In_default)

pub returns : goal.returns
returns c = written _ _ _ _ (check_held _ c.verdict.ensures c.in_default.is) (lit≤ tt) (one_digit _ (few (goal.at.returns c).In_default)) c.put_byte.ensures
