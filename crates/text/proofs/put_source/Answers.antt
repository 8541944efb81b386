-- A write that fits in the slice is placed there, and one that does not goes the long way.
use mathlib.Core.Path.{ap}
use Prim.Native.Nat.{ℕ, ◌+◌}
use Rattle.text.proofs.RanLaws.{placed}
use Rattle.text.proofs.PlaceLaws.{fits_yes}
use Rattle.text.proofs.put_source.Goals as goal

pub returns-then-fits : goal.returns-then-fits
returns-then-fits g c =
    λ limit. placed c.lay.ensures (ap (λ (n : ℕ). c.args.at + n) c.count-count.ensures) (fits_yes _ _ c.fits.ensures c.if-fits.true) c.requires
