-- A write that fits is placed; of one that does not what fits is written by a call of itself. The measure is the length of the text.
use lib.ListN.{length}
use Rattle.text.proofs.+put_short.Given as goal

abbrev pub decreases-put_short : goal.decreases-put_short
decreases-put_short g l = length (g.S.Source.bytes l.source)
