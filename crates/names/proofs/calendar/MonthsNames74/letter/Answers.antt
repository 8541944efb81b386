-- The byte of the table, or of its twin: the table is the names one after the other.
use mathlib.Core.Path.{refl, ap}
use mathlib.Core.List.{List, flatten}
use Prim.Native.Nat.{ℕ}
use lib.ListN.{get_or}
use Rattle.rules.specs.Name.{month_names, in_case}
use Rattle.names.proofs.CalendarLaws.{months_raised}
use Rattle.names.proofs.calendar.MonthsNames74.letter.Goals as goal

pub bounds-place : goal.bounds-place
unfolding month_names flatten
bounds-place c = c.requires

pub bounds-place-else-upper : goal.bounds-place-else-upper
unfolding month_names flatten
bounds-place-else-upper c = c.requires

pub returns-then-upper : goal.returns-then-upper
unfolding month_names flatten
returns-then-upper c = rw c.if-upper.true (ap (λ (t : List ℕ). get_or t c.args.place 0) months_raised)

pub returns-else-upper : goal.returns-else-upper
unfolding month_names flatten in_case
returns-else-upper c = rw c.if-upper.false refl
