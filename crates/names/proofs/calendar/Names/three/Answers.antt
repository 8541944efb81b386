-- The first three bytes from the name's place are its letters, in either table.
use mathlib.Core.Path.{refl}
use mathlib.Core.List.{flatten}
use Prim.Native.Nat.{◌+◌, ◌≤◌}
use native.Mathlib.Omega.{arith}
use lib.ListN.{length}
use Rattle.rules.specs.Name.{as_it_is, in_case}
use Rattle.names.specs.Calendar.{case_by}
use Rattle.names.proofs.CalendarLaws.{part_of, room_for_three, first_three}
use Rattle.names.proofs.calendar.Names.three.Goals as goal
use Rattle.names.proofs.calendar.Names.three.Goals.{After-start-from}

three_there : (g : _) (c : After-start-from g) → c.start-from.result + 3 ≤ length (flatten g.Self.Names.names)
unfolding in_case
three_there g c =
    room_for_three as_it_is _ (part_of _ _ g.met.Self.Names.counted g.met.Self.Names.numbered as_it_is c.requires.0 c.requires.1 refl c.start-from.ensures refl) (g.met.Self.Names.long _ c.requires.0 c.requires.1)

pub letter-requires : goal.letter-requires
letter-requires g c = omega (arith, three_there g (goal.at.letter-requires g c).After-start-from)

pub letter-requires-2 : goal.letter-requires-2
letter-requires-2 g c = omega (arith, three_there g (goal.at.letter-requires-2 g c).After-start-from)

pub letter-requires-3 : goal.letter-requires-3
letter-requires-3 g c = omega (arith, three_there g (goal.at.letter-requires-3 g c).After-start-from)

pub returns : goal.returns
returns g c =
    let there = part_of _ _ g.met.Self.Names.counted g.met.Self.Names.numbered (case_by c.args.upper) c.requires.0 c.requires.1 refl c.start-from.ensures refl in
    rw (c.letter.ensures, c.letter-2.ensures, c.letter-3.ensures) (first_three (case_by c.args.upper) _ there (g.met.Self.Names.long _ c.requires.0 c.requires.1))
