-- `offset_of`: what is read is in the range, so that the cast keeps it.
use Rattle.std.proofs.Common.{◌≤◌, Some, w32, w64, FitsSigned, arith}
use Rattle.std.proofs.lemmas.Int.{ints, to_z-of_z}
use Rattle.std.specs.Int.Signed.{mag}
use Rattle.stamp.proofs.ReadBack.{in_range}
use Rattle.stamp.proofs.arguments.offset_of.Goals as goal

fits : (c : goal.In_ok-read_signed) → FitsSigned w32 c.in_ok-read_signed.field-0
fits c = let bound : mag c.in_ok-read_signed.field-0 ≤ 2147483647 = in_range _ _ (Some c.in_ok-read_signed.field-0) c.in_ok-read_signed.ensures in search (arith, ints)

pub overflow_cast-result : goal.overflow_cast-result
overflow_cast-result c =
    let narrow = fits c in
    let wide : FitsSigned w64 c.in_ok-read_signed.field-0 = search (arith, ints) in
    simp to_z-of_z narrow

pub returns : goal.returns
returns c =
    let narrow = fits c in
    let wide : FitsSigned w64 c.in_ok-read_signed.field-0 = search (arith, ints) in
    simp to_z-of_z c.in_ok-read_signed.ensures
