-- The part of either table between the two places is the name in that table's case.
use Rattle.rules.specs.Name.{in_case}
use Rattle.text.proofs.RanLaws.{said}
use Rattle.names.specs.Calendar.{case_by}
use Rattle.names.proofs.CalendarLaws.{Cut, part_of, raised_table, plain_table}
use Rattle.names.proofs.calendar.Names.put.Goals as goal
use Rattle.names.proofs.calendar.Names.put.Goals.{After-table-table, After-upper_table-table}

raised_part : (g : _) (c : After-upper_table-table g) → Cut c.upper_table-table.result c.start-from.result c.start-end.result (in_case (case_by c.args.upper) (g.Self.Names.name c.args.number))
raised_part g c = part_of _ _ g.met.Self.Names.counted g.met.Self.Names.numbered _ c.requires.1 c.requires.2 (raised_table _ c.if-upper.true c.upper_table-table.ensures) c.start-from.ensures c.start-end.ensures

plain_part : (g : _) (c : After-table-table g) → Cut c.table-table.result c.start-from.result c.start-end.result (in_case (case_by c.args.upper) (g.Self.Names.name c.args.number))
plain_part g c = part_of _ _ g.met.Self.Names.counted g.met.Self.Names.numbered _ c.requires.1 c.requires.2 (plain_table _ c.if-upper.false c.table-table.ensures) c.start-from.ensures c.start-end.ensures

pub put_part-requires : goal.put_part-requires
put_part-requires g c =
    let k = raised_part g (goal.at.put_part-requires g c).After-upper_table-table in
    (c.requires.0, k.order, k.inside)

pub put_part-requires-else-upper : goal.put_part-requires-else-upper
put_part-requires-else-upper g c =
    let k = plain_part g (goal.at.put_part-requires-else-upper g c).After-table-table in
    (c.requires.0, k.order, k.inside)

pub returns-then-upper : goal.returns-then-upper
returns-then-upper g c = λ limit. said (raised_part g (goal.at.returns-then-upper g c).After-upper_table-table).part (c.put_part.ensures limit)

pub returns-else-upper : goal.returns-else-upper
returns-else-upper g c = λ limit. said (plain_part g (goal.at.returns-else-upper g c).After-table-table).part (c.put_part-else-upper.ensures limit)
