-- Four stores lay the digits over the slice; where they do not fit they are the last four places.
use mathlib.Core.Path.{refl, sym}
use Rattle.text.proofs.RanLaws.{said, placed}
use Rattle.text.proofs.PlaceLaws.{fits_yes}
use Rattle.printing.proofs.WriteLaws.{overlay_four}
use Rattle.printing.proofs.FilledLaws.{four_places}
use Rattle.printing.proofs.put_four.Goals as goal

pub returns-then-fits : goal.returns-then-fits
returns-then-fits c =
    let p = c.requires in
    λ limit.
    said (cc (four_places c.args.v p.1, c.tens.ensures, c.ones.ensures, c.tens-then-fits.ensures, c.ones-then-fits.ensures))
    (placed (sym (overlay_four _ _ _ _ _ _)) refl (fits_yes _ _ c.fits.ensures c.if-fits.true) p.0)
