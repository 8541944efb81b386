-- `week_number` computes the rules' number by `week_number_nat`; a start's number is its variant's.
use mathlib.Core.Path.{◌≡◌, refl}
use Prim.Native.Nat.{◌≤◌}
use native.Mathlib.Omega.{arith}
use denote.Enum.Declared.{tag_of}
use Rattle.rules.proofs.WeekLaws.{week_number_nat}
use Rattle.week.specs.declared.WeekStart.{WeekStart}
use Rattle.week.specs.declared.WeekStart.TheVariants.{Sunday, Monday}
use Rattle.week.specs.contracts.WeekStart.{the_type}
use Rattle.week.specs.Start.{start_of}
use Rattle.week.proofs.week_number.Goals as goal

start_to : (s : WeekStart) → start_of s ≤ 1
start_to Sunday = omega arith
start_to Monday = omega arith

start_is : (s : WeekStart) → tag_of the_type s ≡ start_of s
start_is Sunday = refl
start_is Monday = refl

pub overflow_add-start_of_first_week-2 : goal.overflow_add-start_of_first_week-2
overflow_add-start_of_first_week-2 c = omega (arith, start_is c.args.week_start, start_to c.args.week_start)

pub returns : goal.returns
returns c =
    let a = c.args in
    let n = week_number_nat (start_of a.week_start) a.week_day a.year_day_1 c.requires.0 c.requires.1 (start_to a.week_start) in
    omega (arith, n, start_is a.week_start)
