-- A pad within the limit is written as its bytes are; a pad over it is refused with the place where it began.
use native.Mathlib.Omega.{arith}
use Rattle.text.proofs.CountLaws.{pad_refused}
use Rattle.text.proofs.RanLaws.{as_pad, refused_stays, halted}
use Rattle.text.proofs.PlaceLaws.{fits_yes, fits_no, reach_no}
use Rattle.text.proofs.pad.Goals as goal
use Rattle.text.proofs.pad.Goals.{then-count-eq0-via-then-count-eq0, then-count-eq0-via-else-count-eq0+then-fits}

pub returns-then-at-gt-LONGEST_BUFFER : goal.returns-then-at-gt-LONGEST_BUFFER
returns-then-at-gt-LONGEST_BUFFER c = refused_stays c.if-at-gt-LONGEST_BUFFER.true

pub returns-then-count-eq0 : goal.returns-then-count-eq0
returns-then-count-eq0 c =
    as_pad
    (λ z some. elim c.then-count-eq0.branch [
      | then-count-eq0-via-then-count-eq0 w ↦ absurd (omega (arith, w.if-count-eq0.true))
      | then-count-eq0-via-else-count-eq0+then-fits w ↦ fits_yes _ _ w.fits.ensures w.if-fits.true
    ])
    (c.put_short.ensures _)

pub returns : goal.returns
returns c =
    let k = fits_no _ _ c.fits.ensures c.if-fits.false in
    let e = c.refused.ensures.count in
    halted (pad_refused _ _ _ _ _ _ c.if-at-gt-LONGEST_BUFFER.false (omega (arith, c.if-count-eq0.false)) k e) (omega (arith, reach_no _ e))
