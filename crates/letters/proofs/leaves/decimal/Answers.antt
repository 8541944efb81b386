-- The printer, with the zeros that the width asks for.
use mathlib.Core.Path.{refl}
use mathlib.Core.Bool.{true}
use native.Mathlib.Omega.{arith}
use Rattle.number_directive.proofs.NumberLaws.{as_read}
use Rattle.letters.proofs.LeafLaws.{written}
use Rattle.letters.proofs.leaves.decimal.Goals as goal

pub returns : goal.returns
returns c =
    written true _ _ _ refl (omega arith) refl (λ limit. as_read _ c.args.width c.args.v c.ranges.v (c.put_decimal.ensures limit))
