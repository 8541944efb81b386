-- Two stores lay the two digits over the slice; where they do not fit they are the last two places.
use mathlib.Core.Path.{refl, sym}
use Rattle.rules.proofs.DecimalLaws.{two_is}
use Rattle.text.proofs.OverlayLaws.{overlay_two}
use Rattle.text.proofs.RanLaws.{said, placed}
use Rattle.text.proofs.PlaceLaws.{fits_yes}
use Rattle.text.proofs.put_two.Goals as goal

pub returns-then-fits : goal.returns-then-fits
returns-then-fits c =
    let p = c.requires in
    λ limit. said (two_is _ p.1 c.tens.ensures c.ones.ensures) (placed (sym (overlay_two _ _ _ _)) refl (fits_yes _ _ c.fits.ensures c.if-fits.true) p.0)
