-- One digit, or two.
use Rattle.text.proofs.RanLaws.{said}
use Rattle.letters.proofs.ShortLaws.{one_short, two_short}
use Rattle.letters.proofs.short.put_short.Goals as goal

pub returns-then-v-lt10 : goal.returns-then-v-lt10
returns-then-v-lt10 c = λ limit. said (one_short _ c.if-v-lt10.true) (c.put_byte.ensures limit)

pub returns : goal.returns
returns c = λ limit. said (two_short _ c.if-v-lt10.false c.requires.1) (c.put_two.ensures limit)
