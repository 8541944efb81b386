-- The table is the names one after the other: that is computed.
use mathlib.Core.Path.{refl}
use mathlib.Core.List.{flatten}
use Rattle.rules.specs.Name.{day_names}
use Rattle.names.proofs.calendar.DaysNames50.table.Goals as goal

pub returns : goal.returns
unfolding day_names flatten
returns c = refl
