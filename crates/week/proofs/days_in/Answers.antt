-- `days_in` answers by the leap year.
use mathlib.Core.Path.{◌≡◌, sym, ap, ◌∙◌}
use mathlib.Core.Bool.{Bool, cond}
use Prim.Native.Nat.{ℕ, ◌+◌}
use mir.Syntax.{w64}
use mir.ValLaws.{to_z-of_z}
use Rattle.rules.specs.Calendar.{is_leap, leap_day, days_in}
use Rattle.week.proofs.days_in.Goals as goal
use Rattle.week.proofs.days_in.Goals.{After-is_leap_year}

days : (c : After-is_leap_year) {b : Bool} → c.is_leap_year.result ≡ b → 365 + cond b 1 0 ≡ days_in c.args.year
unfolding days_in leap_day
days c e = ap (λ (b : Bool). 365 + cond {A = ℕ} b 1 0) (sym e ∙ c.is_leap_year.ensures ∙ ap is_leap (to_z-of_z w64 _ c.ranges.year))

pub returns-then-is_leap_year : goal.returns-then-is_leap_year
returns-then-is_leap_year c = days (goal.at.returns-then-is_leap_year c).After-is_leap_year c.if-is_leap_year.true

pub returns-else-is_leap_year : goal.returns-else-is_leap_year
returns-else-is_leap_year c = days (goal.at.returns-else-is_leap_year c).After-is_leap_year c.if-is_leap_year.false
