-- The fill that a flag of the code stands for.
use Rattle.std.specs.Prelude.{Bool, true, false}
use Rattle.rules.specs.Decimal.{Fill, zeros, spaces}

abbrev pub fill_with : Bool → Fill
fill_with true = zeros
fill_with false = spaces
