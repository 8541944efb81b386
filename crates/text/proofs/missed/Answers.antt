-- A refused place passes; the bytes have room; or they have none, and the text comes as far as the room.
use Prim.Native.Nat.{◌+◌}
use native.Mathlib.Omega.{arith}
use Rattle.text.proofs.CountLaws.{put_refused}
use Rattle.text.proofs.RanLaws.{refused_clipped, fitting, clipped}
use Rattle.text.proofs.PlaceLaws.{fits_yes, fits_no, reach_no}
use Rattle.text.proofs.missed.Goals as goal

pub returns-then-at-gt-LONGEST_BUFFER : goal.returns-then-at-gt-LONGEST_BUFFER
returns-then-at-gt-LONGEST_BUFFER c = λ limit t l l' e h b. refused_clipped c.if-at-gt-LONGEST_BUFFER.true (omega (arith, c.requires)) b

pub returns-then-fits : goal.returns-then-fits
returns-then-fits c =
    let k = fits_yes _ _ c.fits.ensures c.if-fits.true in
    λ limit t l l' e h b. fitting b (omega arith) k c.requires

pub returns : goal.returns
returns c =
    let a = c.args in
    let k = fits_no (a.at + a.count) a.room c.fits.ensures c.if-fits.false in
    let e = c.refused.ensures.count in
    λ limit t l l' is h b.
    clipped (put_refused limit a.room t a.at _ c.if-at-gt-LONGEST_BUFFER.false (omega arith) e) (omega (arith, reach_no _ e)) b
