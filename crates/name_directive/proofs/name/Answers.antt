-- A field out of range stops at once; else the pad and the letters.
use Rattle.text.proofs.RanLaws.{room_kept}
use Rattle.text.proofs.JudgedLaws.{check_held}
use Rattle.name_directive.proofs.LetterLaws.{in_range_named}
use Rattle.name_directive.proofs.RunLaws.{name_failed, named}
use Rattle.name_directive.proofs.name.Goals as goal

pub returns-in-Err : goal.returns-in-Err
returns-in-Err c =
    let a = c.args in
    λ zone. name_failed a.name a.piece a.«record» zone (c.in_range.ensures zone) c.verdict.ensures c.in-Err.is (c.refused_at.ensures _ _ _)

pub name_length-requires : goal.name_length-requires
name_length-requires c =
    let a = c.args in
    in_range_named a.name a.«record» c.in_range.ensures (check_held _ c.verdict.ensures c.in_default.is) c.name_number-number.ensures

pub put_name-requires : goal.put_name-requires
put_name-requires c =
    (room_kept c.string_padding-next.ensures c.requires, in_range_named c.args.name c.args.«record» c.in_range.ensures (check_held _ c.verdict.ensures c.in_default.is) c.name_number-number.ensures)

pub returns : goal.returns
returns c =
    let a = c.args in
    λ zone. named a.name a.piece a.«record» zone (c.in_range.ensures zone) (check_held _ c.verdict.ensures c.in_default.is) c.name_number-number.ensures c.in_capitals.ensures (c.name_length.ensures _) c.string_padding-next.ensures (c.put_name.ensures _)
