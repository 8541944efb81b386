-- `is_sign_negative`: the sign is the highest bit.
use borrow.Author.Rules.{rules}
use Rattle.offset.proofs.HourLaws.{sign_bit}
use Rattle.offset.proofs.is_sign_negative.Goals as goal

pub returns : goal.returns
returns c = sign_bit c.args.hour (search rules) c.requires
