-- `iso` asks for the ISO week where the check has shown what it requires.
use mathlib.Core.Path.{ap, ◌∙◌, subst⁻¹}
use Prim.Native.Nat.{◌≤◌}
use lib.IntN.{ℤ}
use mir.Syntax.{w32}
use mir.ValLaws.{to_z-of_z}
use borrow.Author.Rules.{rules}
use Rattle.rules.specs.Calendar.{days_in}
use Rattle.rules.specs.Week.{iso_week}
use Rattle.values.proofs.Laws.{week_range, in_week, not_in_week}
use Rattle.values.proofs.iso.Goals as goal

pub iso_8601_year_and_week_number-requires : goal.iso_8601_year_and_week_number-requires
iso_8601_year_and_week_number-requires c =
    let r = c.args.«record» in
    let h = week_range r (in_week r c.week.ensures c.if-week.true) in
    (h.0, h.1, subst⁻¹ (λ (y : ℤ). r.day_of_year ≤ days_in y) (to_z-of_z w32 r.year (search rules)) h.2)

pub returns-then-week : goal.returns-then-week
returns-then-week c =
    let r = c.args.«record» in
    λ h. c.iso_8601_year_and_week_number.ensures ∙ ap (λ (y : ℤ). iso_week y r.day_of_week r.day_of_year) (to_z-of_z w32 r.year (search rules))

pub returns-else-week : goal.returns-else-week
returns-else-week c = not_in_week _ c.week.ensures c.if-week.false
