-- One store, or it is missed.
use mathlib.Core.Path.{refl, sym}
use native.Mathlib.Omega.{arith}
use Rattle.text.proofs.OverlayLaws.{overlay_one, overlay_past}
use Rattle.text.proofs.RanLaws.{placed}
use Rattle.text.proofs.put_byte.Goals as goal

pub returns-then-at-out : goal.returns-then-at-out
returns-then-at-out c = λ limit. placed (sym (overlay_one _ _ _)) refl (omega arith) c.requires

pub returns : goal.returns
returns c = λ limit. c.missed.ensures limit _ _ _ refl c.requires.within (sym (overlay_past _ _ _ c.if-at-out.false))
