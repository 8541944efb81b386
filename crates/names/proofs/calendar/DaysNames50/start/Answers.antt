-- The table is what its rule gives at each number: that is computed.
use mathlib.Core.List.{flatten}
use Prim.Native.Nat.{◌-◌}
use borrow.Author.Rules.{rules}
use Rattle.rules.specs.Name.{day_names}
use Rattle.names.specs.Calendar.{name_start}
use Rattle.names.proofs.TableLaws.{entry}
use Rattle.names.proofs.calendar.DaysNames50.start.Goals as goal

pub returns : goal.returns
unfolding day_names name_start flatten
returns c = entry (λ day. name_start day_names (day - 0)) 8 c.args.day (search rules)
