-- 16 bytes, none, or as many as there are.
use native.Mathlib.Omega.{arith}
use Rattle.stored.proofs.CopyLaws.{copied_most}
use Rattle.stored.proofs.literals.copy_text.Goals as goal

pub returns-then-at-blocks : goal.returns-then-at-blocks
returns-then-at-blocks c = let room = c.requires.2 c.if-at-blocks.true in copied_most c.args.src.now c.args.from _ 16 c.if-n-le16.true room.0 room.1 c.lay.ensures

pub returns : goal.returns
returns c = copied_most c.args.src.now c.args.from c.args.n c.args.n (omega arith) (omega arith) c.requires.1 c.lay-2.ensures
