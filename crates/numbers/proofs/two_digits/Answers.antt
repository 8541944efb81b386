-- The tens and the ones.
use Rattle.rules.proofs.DecimalLaws.{two_is}
use Rattle.numbers.proofs.two_digits.Goals as goal

pub returns : goal.returns
returns c = two_is _ c.requires c.tens.ensures c.ones.ensures
