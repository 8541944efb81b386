-- The longer of the width and the decimal text, whose length is the place after it.
use Rattle.std.specs.Prelude.{◌≡◌, length}
use native.Mathlib.Omega.{arith}
use Rattle.rules.specs.Decimal.{decimal_text, zeros}
use Rattle.rules.proofs.DecimalLaws.{length_text_to, length_filled}
use Rattle.numbers.proofs.Signed.{widened}
use Rattle.printing.proofs.WriteLaws.{place_after}
use Rattle.printing.proofs.year_length.Goals as goal
use Rattle.printing.proofs.year_length.Goals.{After-put_decimal-length}

length_is : (c : After-put_decimal-length) → c.put_decimal-length.result ≡ length (decimal_text c.args.year)
length_is c =
    let y = c.args.year in
    let f = c.ranges.year in
    let t = rw (widened y f) at (c.put_decimal-length.ensures 0) in
    let l = length_filled zeros 0 y in
    omega (arith, place_after t (omega (arith, length_text_to y (omega (arith, f.sfits)))) (omega arith))

pub returns : goal.returns
returns c = omega (arith, c.max.ensures, length_is (goal.at.returns c).After-put_decimal-length, length_filled zeros c.args.least c.args.year)
