-- A field out of range stops at once; else the letters.
use mathlib.Core.Path.{ap, ◌∙◌}
use Rattle.text.proofs.JudgedLaws.{check_held}
use Rattle.name_directive.specs.Named.{capitals}
use Rattle.name_directive.proofs.LetterLaws.{in_range_named}
use Rattle.name_directive.proofs.RunLaws.{name_failed, plain_named}
use Rattle.name_directive.proofs.plain_name.Goals as goal

pub returns-in-Err : goal.returns-in-Err
returns-in-Err c =
    let a = c.args in
    λ limit zone. name_failed a.name _ a.«record» zone (c.in_range.ensures zone) c.verdict.ensures c.in-Err.is (c.refused_at.ensures _ _ _)

pub put_name-requires : goal.put_name-requires
put_name-requires c =
    (c.requires, in_range_named c.args.name c.args.«record» c.in_range.ensures (check_held _ c.verdict.ensures c.in_default.is) c.name_number-number.ensures)

pub returns : goal.returns
returns c =
    λ limit zone. plain_named c.args.name c.args.«record» zone (c.in_range.ensures zone) (check_held _ c.verdict.ensures c.in_default.is) c.name_number-number.ensures (c.in_capitals.ensures ∙ ap (capitals c.args.name) c.new.ensures) (c.put_name.ensures limit)
