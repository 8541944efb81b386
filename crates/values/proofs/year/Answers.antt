-- `year`: the width goes by the number itself.
use mathlib.Core.Path.{◌≡◌, ap, ◌∙◌, subst}
use Prim.Native.Nat.{ℕ}
use mathlib.Core.Bool.{false}
use native.Mathlib.Omega.{arith}
use mir.Syntax.{w64}
use mir.ValLaws.{to_z-of_z}
use Rattle.rules.specs.Writing.{year_width}
use Rattle.rules.proofs.WidthLaws.{year_narrow}
use Rattle.values.specs.Inner.{Valued}
use Rattle.values.proofs.Laws.{renumbered}
use Rattle.values.proofs.year.Goals as goal
use Rattle.values.proofs.year.Goals.{After-year_width}

width_is : (c : After-year_width) → c.year_width.result ≡ year_width c.args.year
width_is c = c.year_width.ensures ∙ ap year_width (to_z-of_z w64 _ c.ranges.year)

pub zeros-requires : goal.zeros-requires
zeros-requires c = omega (arith, width_is (goal.at.zeros-requires c).After-year_width, year_narrow c.args.year)

pub returns : goal.returns
returns c =
    subst (λ (w : ℕ). Valued c.args.ok c.args.year w false c.zeros.result) (width_is (goal.at.returns c).After-year_width)
    (renumbered (to_z-of_z w64 _ c.ranges.year) c.zeros.ensures)
