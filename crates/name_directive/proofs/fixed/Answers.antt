-- The pad, and the byte.
use Rattle.name_directive.proofs.RunLaws.{fixed_written}
use Rattle.name_directive.proofs.fixed.Goals as goal

pub returns : goal.returns
returns c =
    let a = c.args in
    λ r zone. fixed_written a.fixed a.piece r zone c.fixed_byte.ensures c.string_padding-next.ensures (c.put_byte.ensures _)
