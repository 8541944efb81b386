-- Straight off, or by its piece.
use mathlib.Core.Path.{refl}
use Rattle.stored.proofs.EntryLaws.{by_colon, by_short}
use Rattle.stored.proofs.entry.marked_entry.Goals as goal

pub returns-then-eight-eq1 : goal.returns-then-eight-eq1
returns-then-eight-eq1 c = by_colon _ _ _ c.eight_at-eight.ensures c.if-eight-eq1.true (c.plain_offset.ensures _)

pub put_short-requires : goal.put_short-requires
put_short-requires c = (c.requires.0, (c.short_of.ensures _ c.in-Some.is).1)

pub returns-in-Some : goal.returns-in-Some
returns-in-Some c = by_short _ _ _ c.eight_at-eight.ensures c.if-eight-eq256.true refl (c.short_of.ensures _ c.in-Some.is).0 (c.put_short.ensures _)
