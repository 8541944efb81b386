-- A short number, an offset with a colon, or what the parser finds.
use mathlib.Core.Path.{refl}
use Rattle.walk.proofs.MarkLaws.{step_short, step_colon}
use Rattle.walk.proofs.marked_item.Goals as goal

pub put_short-requires : goal.put_short-requires
put_short-requires c = (c.requires.0, (c.short_of.ensures _ c.in-Some.is).1)

pub returns-in-Some : goal.returns-in-Some
returns-in-Some c =
    step_short _ c.requires.2 c.byte_at-mark.ensures c.if-mark-eq45.true c.byte_at-b.ensures (c.short_of.ensures _ c.in-Some.is).0 refl (c.put_short.ensures _)

pub returns-then-b-eq122 : goal.returns-then-b-eq122
returns-then-b-eq122 c =
    step_colon _ c.requires.2 c.byte_at-mark.ensures c.if-mark-eq58.true c.byte_at-b.ensures c.if-b-eq122.true refl (c.plain_offset.ensures _)
