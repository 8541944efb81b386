-- The twin is the upper case of its table, and the table is the names one after the other.
use mathlib.Core.List.{flatten}
use Rattle.rules.specs.Name.{day_names}
use Rattle.names.proofs.CalendarLaws.{days_raised}
use Rattle.names.proofs.calendar.DaysNames50.upper_table.Goals as goal

pub returns : goal.returns
unfolding day_names flatten
returns c = days_raised
