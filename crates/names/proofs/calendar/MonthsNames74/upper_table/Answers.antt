-- The twin is the upper case of its table, and the table is the names one after the other.
use mathlib.Core.List.{flatten}
use Rattle.rules.specs.Name.{month_names}
use Rattle.names.proofs.CalendarLaws.{months_raised}
use Rattle.names.proofs.calendar.MonthsNames74.upper_table.Goals as goal

pub returns : goal.returns
unfolding month_names flatten
returns c = months_raised
