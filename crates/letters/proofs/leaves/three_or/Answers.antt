-- The check, and three digits.
use Prim.Native.Nat.{◌<◌}
use lib.Dec.{lit≤}
use Rattle.text.proofs.JudgedLaws.{check_held}
use Rattle.letters.proofs.LeafLaws.{refused, written, as_places}
use Rattle.letters.proofs.leaves.three_or.Goals as goal
use Rattle.letters.proofs.leaves.three_or.Goals.{In_default}

few : (c : In_default) → c.args.v < 1000
few c = c.requires.1 (check_held _ c.verdict.ensures c.in_default.is)

pub returns-in-Err : goal.returns-in-Err
returns-in-Err c = refused _ _ _ _ c.verdict.ensures c.in-Err.is c.refused_at.ensures

pub returns : goal.returns
returns c = written _ _ _ _ (check_held _ c.verdict.ensures c.in_default.is) (lit≤ tt) (as_places 3 _ (few (goal.at.returns c).In_default) (lit≤ tt)) c.put_places.ensures
