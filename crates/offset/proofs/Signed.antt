-- A signed argument of a callee is read back from its bits.
use mathlib.Core.Path.{◌≡◌}
use Prim.Native.Nat.{◌/◌, ◌^◌, ◌<◌}
use native.Mathlib.Omega.{arith}
use lib.IntN.{ℤ, nat_abs}
use mir.Syntax.{w32}
use mir.Val.{SFits, to_z, of_z}
use mir.Facts.{to_z-of_z}
use Rattle.numbers.proofs.Signed.{abs_le}

module _ (z : ℤ) (f : SFits w32 z) where
  pub back : to_z w32 (of_z w32 z) ≡ z
  back = to_z-of_z f

  pub hours_small : nat_abs (to_z w32 (of_z w32 z)) / 3600 < 2 ^ 32
  hours_small = rw (to_z-of_z f) (omega (arith, abs_le z, f.sfits))
