-- The table is the names one after the other: that is computed.
use mathlib.Core.Path.{refl}
use mathlib.Core.List.{flatten}
use Rattle.rules.specs.Name.{month_names}
use Rattle.names.proofs.calendar.MonthsNames74.table.Goals as goal

pub returns : goal.returns
unfolding month_names flatten
returns c = refl
