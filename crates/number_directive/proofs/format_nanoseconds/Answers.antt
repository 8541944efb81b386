-- Up to nine digits are the last places of a quotient; above, nine places and the pad.
use Rattle.number_directive.proofs.FractionLaws.{power_positive, quotient_fits, nine_or_fewer, more_than_nine}
use borrow.Author.Rules.{rules}
use Rattle.number_directive.proofs.format_nanoseconds.Goals as goal

pub nonzero_div-value : goal.nonzero_div-value
nonzero_div-value c = power_positive _ c.power.ensures

pub overflow_cast-value : goal.overflow_cast-value
overflow_cast-value c = quotient_fits _ _ (search rules)

pub returns-then-width-le9 : goal.returns-then-width-le9
returns-then-width-le9 c =
    nine_or_fewer _ _ c.if-width-le9.true c.power.ensures (c.put_places.ensures _)

pub returns : goal.returns
returns c = more_than_nine _ _ c.if-width-le9.false (c.put_places-next.ensures _) c.pad.ensures
