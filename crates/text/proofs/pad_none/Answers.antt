-- Within the slice it changes nothing; else it is a pad of no bytes.
use mathlib.Core.Path.{sym}
use native.Mathlib.Omega.{arith}
use Rattle.text.proofs.OverlayLaws.{overlay_nil}
use Rattle.text.proofs.RanLaws.{placed, as_pad, any_byte}
use Rattle.text.proofs.pad_none.Goals as goal

pub returns-then-at-out : goal.returns-then-at-out
returns-then-at-out c = λ byte. as_pad (λ k some. absurd (omega arith)) (placed (sym (overlay_nil _ _)) (omega arith) (omega arith) c.requires)

pub returns : goal.returns
returns c = λ byte. any_byte c.pad.ensures
