-- The table is what its rule gives at each number: that is computed.
use mathlib.Core.List.{flatten}
use Prim.Native.Nat.{◌-◌}
use borrow.Author.Rules.{rules}
use Rattle.rules.specs.Name.{month_names}
use Rattle.names.specs.Calendar.{name_start}
use Rattle.names.proofs.TableLaws.{entry}
use Rattle.names.proofs.calendar.MonthsNames74.start.Goals as goal

pub returns : goal.returns
unfolding month_names name_start flatten
returns c = entry (name_start month_names) 13 (c.args.month - 1) (search rules)
