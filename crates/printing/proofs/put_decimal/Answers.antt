-- The front of the printer's bytes alone, behind a run, or after the sign and a run.
use mathlib.Core.Path.{◌∙◌}
use mathlib.Core.Logic.{inl, inr}
use native.Mathlib.Omega.{arith}
use mir.Syntax.{w64}
use mir.ValLaws.{to_z-of_z}
use Rattle.numbers.proofs.Signed.{is_neg, is_pos}
use Rattle.numbers.proofs.TextLaws.{text_some}
use Rattle.text.proofs.RanLaws.{◌then◌, joined, said}
use Rattle.printing.proofs.FilledLaws.{text_alone, text_behind, text_after_sign, as_asked}
use Rattle.printing.proofs.put_decimal.Goals as goal
use Rattle.printing.proofs.put_decimal.Goals.{else-zeros-via-then-zeros+else-v-lt0, else-zeros-via-else-zeros}

pub returns-then-width-count : goal.returns-then-width-count
returns-then-width-count c =
    let d = c.decimal_text-decimal.ensures in
    λ limit. said (text_alone (to_z-of_z w64 c.args.v c.ranges.v) c.args.width d.text d.count _ (omega arith)) (c.put.ensures limit)

pub slice_bounds-put-count : goal.slice_bounds-put-count
slice_bounds-put-count c = let d = c.decimal_text-decimal.ensures in text_some _ _ _ _ d.text d.count

pub slice_bounds-put-start : goal.slice_bounds-put-start
slice_bounds-put-start c = let d = c.decimal_text-decimal.ensures in text_some _ _ _ _ d.text d.count

pub returns-then-v-lt0 : goal.returns-then-v-lt0
returns-then-v-lt0 c =
    let d = c.decimal_text-decimal.ensures in
    let v = is_neg w64 c.args.v c.ranges.v c.if-v-lt0.true in
    λ limit.
    said (text_after_sign (to_z-of_z w64 c.args.v c.ranges.v) c.args.width d.text d.count v ∙ as_asked c.args.width c.if-zeros.true v)
    (joined (c.put-next.ensures limit then joined (c.put_short-first.ensures limit then c.put-then-v-lt0.ensures limit)))

pub returns : goal.returns
returns c =
    let d = c.decimal_text-decimal.ensures in
    λ limit.
    said
    (text_behind (to_z-of_z w64 c.args.v c.ranges.v) c.args.width d.text d.count c.args.zeros c.fill_byte-byte.ensures
    (elim c.else-zeros.branch [
      | else-zeros-via-then-zeros+else-v-lt0 k ↦ inr (is_pos w64 c.args.v c.ranges.v k.if-v-lt0.false)
      | else-zeros-via-else-zeros k ↦ inl k.if-zeros.false
    ]))
    (joined (c.put_short-first-2.ensures limit then c.put-2.ensures limit))
