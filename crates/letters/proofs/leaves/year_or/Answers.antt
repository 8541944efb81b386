-- The check, and the year.
use mathlib.Core.Path.{ap}
use native.Mathlib.Omega.{arith}
use mir.Syntax.{w64}
use mir.ValLaws.{to_z-of_z}
use Rattle.rules.specs.Writing.{year_text}
use Rattle.rules.proofs.WidthLaws.{year_narrow}
use Rattle.text.proofs.JudgedLaws.{check_held}
use Rattle.letters.proofs.LeafLaws.{refused, written}
use Rattle.letters.proofs.leaves.year_or.Goals as goal

pub returns-in-Err : goal.returns-in-Err
returns-in-Err c = refused _ _ _ _ c.verdict.ensures c.in-Err.is c.refused_at.ensures

pub returns : goal.returns
returns c =
    written _ _ _ _ (check_held _ c.verdict.ensures c.in_default.is) (omega (arith, year_narrow c.args.year)) (ap year_text (to_z-of_z w64 _ c.ranges.year)) c.put_year.ensures
