-- The length is that of the part between the two places.
use mathlib.Core.Path.{refl}
use mathlib.Core.List.{flatten}
use Rattle.rules.specs.Name.{as_it_is, in_case}
use Rattle.names.proofs.CalendarLaws.{Cut, cut_length, part_of}
use Rattle.names.proofs.calendar.Names.length.Goals as goal
use Rattle.names.proofs.calendar.Names.length.Goals.{After-start-2}

part : (g : _) (c : After-start-2 g) → Cut (flatten g.Self.Names.names) c.start-2.result c.start.result (g.Self.Names.name c.args.number)
unfolding in_case
part g c = part_of _ _ g.met.Self.Names.counted g.met.Self.Names.numbered as_it_is c.requires.0 c.requires.1 refl c.start-2.ensures c.start.ensures

pub overflow_sub-result : goal.overflow_sub-result
overflow_sub-result g c = (part g c).order

pub returns : goal.returns
returns g c = cut_length (part g c)
