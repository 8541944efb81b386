-- A year that two tests have shown to be natural and below 10,000: what is read back of it, and its four digits, which are its text.
use Rattle.std.specs.Prelude.{◌≡◌, ◌<◌, true, ℤ, pos, nat_abs}
use mathlib.Core.Path.{sym, ap, ◌∙◌}
use lib.Dec.{lit≤}
use lib.Signed.{mag, lt_z, le_z}
use mir.Syntax.{w64}
use mir.Val.{SFits, of_z, to_z}
use mir.ValLaws.{to_z-of_z}
use borrow.Author.Tests.{ltb-true}
use Rattle.rules.specs.Decimal.{places}
use Rattle.rules.specs.Writing.{year_width, year_text}
use Rattle.rules.proofs.DecimalLaws.{filled_zeros_places}
use Rattle.numbers.proofs.Signed.{is_nat}
use Rattle.printing.proofs.FilledLaws.{year_filled}

module _ {v : ℤ} (f : SFits w64 v) (s : le_z (pos 0) (to_z w64 (of_z w64 v)) ≡ true) (t : lt_z (to_z w64 (of_z w64 v)) (pos 10000) ≡ true) where
  natural : v ≡ pos (mag v)
  natural = is_nat w64 v f s

  read : to_z w64 (of_z w64 v) ≡ pos (mag v)
  read = to_z-of_z w64 v f ∙ natural

  few : mag v < 10000
  few = ltb-true (mag v) 10000 (rw read at t)

  pub four_text : places 4 (nat_abs (to_z w64 (of_z w64 v))) ≡ year_text v
  four_text =
      ap (λ (z : ℤ). places 4 (nat_abs z)) read ∙ sym (filled_zeros_places 4 (mag v) few (lit≤ tt)) ∙ year_filled (sym natural) (ap year_width natural)
