-- The check, and two places of which the first may be a space.
use Prim.Native.Nat.{◌<◌}
use lib.Dec.{lit≤}
use Rattle.text.proofs.JudgedLaws.{check_held}
use Rattle.letters.proofs.LeafLaws.{refused, written}
use Rattle.letters.proofs.leaves.spaced_or.Goals as goal
use Rattle.letters.proofs.leaves.spaced_or.Goals.{In_default}

few : (c : In_default) → c.args.v < 100
few c = c.requires.1 (check_held _ c.verdict.ensures c.in_default.is)

pub returns-in-Err : goal.returns-in-Err
returns-in-Err c = refused _ _ _ _ c.verdict.ensures c.in-Err.is c.refused_at.ensures

pub spaced_digits-digits-requires : goal.spaced_digits-digits-requires
spaced_digits-digits-requires c = few (goal.at.spaced_digits-digits-requires c).In_default

pub returns : goal.returns
returns c = written _ _ _ _ (check_held _ c.verdict.ensures c.in_default.is) (lit≤ tt) c.spaced_digits-digits.ensures c.put.ensures
