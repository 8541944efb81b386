-- The table is what its rule gives at each number: that is computed.
use borrow.Author.Rules.{rules}
use Rattle.numbers.proofs.PairLaws.{pair_at}
use Rattle.numbers.proofs.pairs.pair.Goals as goal

pub returns : goal.returns
returns c = pair_at c.args.v (search rules)
