-- A field out of range stops at once; with the left flag the number stands alone; else it is filled.
use mathlib.Core.Path.{refl, sym, ◌∙◌}
use native.Mathlib.Omega.{arith}
use mir.Syntax.{w64}
use mir.ValLaws.{to_z-of_z}
use Rattle.text.proofs.JudgedLaws.{check_held}
use Rattle.number_directive.proofs.NumberLaws.{plain_decimal, number_held, number_failed}
use Rattle.number_directive.proofs.number.Goals as goal

pub returns-in-Err : goal.returns-in-Err
returns-in-Err c =
    let a = c.args in
    λ zone. number_failed a.number a.piece a.«record» zone c.value_of-value.ensures c.verdict.ensures c.in-Err.is (c.refused_at.ensures _ _ _)

pub returns-then-contains : goal.returns-then-contains
returns-then-contains c =
    let a = c.args in
    let value = c.value_of-value in
    λ zone. number_held a.number a.piece a.«record» zone value.ensures (check_held _ c.verdict.ensures c.in_default.is) (sym c.contains.ensures ∙ c.if-contains.true) refl refl (to_z-of_z w64 value.result.number (omega arith)) (plain_decimal _ _ _ (c.put_decimal.ensures _))

pub returns : goal.returns
returns c =
    let a = c.args in
    let value = c.value_of-value in
    λ zone. number_held a.number a.piece a.«record» zone value.ensures (check_held _ c.verdict.ensures c.in_default.is) (sym c.contains.ensures ∙ c.if-contains.false) c.fills_zeros-zeros.ensures c.unwrap_or-width.ensures (to_z-of_z w64 value.result.number (omega arith)) c.format_num.ensures
