-- The byte alone.
use Rattle.name_directive.proofs.RunLaws.{plain_fixed_written}
use Rattle.name_directive.proofs.plain_fixed.Goals as goal

pub returns : goal.returns
returns c =
    let a = c.args in
    λ limit r zone. plain_fixed_written a.fixed r zone c.fixed_byte.ensures (c.put_byte.ensures limit)
