-- A width of at most 65,535 is the text alone; a wider one is the pad and the text.
use Rattle.printing.specs.FillWith.{fill_with}
use Rattle.number_directive.proofs.NumberLaws.{narrow, wide, as_read}
use Rattle.number_directive.proofs.format_num.Goals as goal

pub returns-then-width-le65535 : goal.returns-then-width-le65535
returns-then-width-le65535 c =
    let a = c.args in
    narrow (fill_with a.zeros) a.width a.v c.if-width-le65535.true (as_read (fill_with a.zeros) a.width a.v c.ranges.v (c.put_decimal.ensures _))

pub returns : goal.returns
returns c =
    let a = c.args in
    wide (fill_with a.zeros) a.width a.v c.if-width-le65535.false c.fill_byte-fill.ensures c.put_padding-next.ensures (as_read (fill_with a.zeros) 65535 a.v c.ranges.v (c.put_decimal-2.ensures _))
