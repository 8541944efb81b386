-- The text of a year is short enough for a sum.
use mathlib.Core.Path.{◌≡◌}
use Prim.Native.Nat.{ℕ, ◌≤◌}
use native.Mathlib.Omega.{arith}
use lib.IntN.{ℤ}
use lib.ListN.{length}
use mir.Syntax.{w32}
use mir.Val.{SFits}
use mir.ValLaws.{to_z-of_z}
use Rattle.rules.specs.Decimal.{zeros, filled}
use Rattle.rules.proofs.DecimalLaws.{length_filled, length_text_to}
use Rattle.rules.proofs.WidthLaws.{year_narrow}
use Rattle.combination_directive.proofs.combination_length.Goals as goal

short : (width : ℕ) (year : ℤ) {n : ℕ} → n ≡ length (filled zeros width year) → SFits w32 year → width ≤ 5 → n ≤ 20
short width year e f h = omega (arith, length_filled zeros width year, length_text_to year (omega (arith, f.sfits)))

pub overflow_add-result : goal.overflow_add-result
overflow_add-result c = omega (arith, short _ _ (rw (to_z-of_z w32 _ c.ranges.year) at c.year_text_length.ensures) c.ranges.year (year_narrow c.args.year))

pub overflow_add-result-in-CombinationIso8601 : goal.overflow_add-result-in-CombinationIso8601
overflow_add-result-in-CombinationIso8601 c = omega (arith, short _ _ (rw (to_z-of_z w32 _ c.ranges.year) at c.year_text_length-in-CombinationIso8601.ensures) c.ranges.year (year_narrow c.args.year))

pub overflow_add-result-in-CombinationVmsDate : goal.overflow_add-result-in-CombinationVmsDate
overflow_add-result-in-CombinationVmsDate c = omega (arith, short _ _ (rw (to_z-of_z w32 _ c.ranges.year) at c.year_length.ensures) c.ranges.year (omega arith))
