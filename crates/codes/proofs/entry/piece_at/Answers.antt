-- Field by field.
use Rattle.codes.proofs.EntryLaws.{piece_of}
use Rattle.codes.proofs.entry.piece_at.Goals as goal

pub returns : goal.returns
returns c = piece_of c.args.s.now c.args.at c.four_at.ensures c.width_from.ensures c.padding_from.ensures c.flags_from.ensures c.spec_from.ensures
