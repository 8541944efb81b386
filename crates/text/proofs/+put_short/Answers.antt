-- A write that fits is placed; of one that does not what fits is written by a call of itself.
use mathlib.Core.Path.{sym, ap}
use Prim.Native.Nat.{ℕ, ◌+◌, ◌-◌}
use native.Mathlib.Omega.{arith}
use lib.ListN.{length}
use Rattle.text.proofs.OverlayLaws.{overlay_past}
use Rattle.text.proofs.PlaceLaws.{fits_yes, fits_no}
use Rattle.text.proofs.RanLaws.{placed, front_written}
use Rattle.text.proofs.+put_short.Goals as goal

pub returns-then-fits : goal.returns-then-fits
returns-then-fits g t c =
    λ limit. placed c.lay.ensures (ap (λ (n : ℕ). c.args.at + n) c.count-count.ensures) (fits_yes _ _ c.fits.ensures c.if-fits.true) c.requires

pub returns-then-at-out : goal.returns-then-at-out
returns-then-at-out g t c =
    let a = c.args in
    let text = g.S.Source.bytes a.source in
    let k = fits_no (a.at + c.count-count.result) (length a.out.now) c.fits.ensures c.if-fits.false in
    let w = front_written (length a.out.now - a.at) text (c.put_short-end.ensures 0) c.front.ensures (omega arith) (omega (arith, c.if-at-out.true)) c.requires in
    λ limit. c.missed.ensures limit _ _ _ (sym c.count-count.ensures) c.requires.within w

pub returns : goal.returns
returns g t c = λ limit. c.missed-2.ensures limit _ _ _ (sym c.count-count.ensures) c.requires.within (sym (overlay_past _ _ _ c.if-at-out.false))
