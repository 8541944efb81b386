-- Each byte in the case that the flags ask for, or the name as it is.
use mathlib.Core.Path.{sym, ◌∙◌}
use Rattle.text.proofs.RanLaws.{said}
use Rattle.name_directive.proofs.CaseLaws.{zone_lowered, zone_raised, zone_same}
use Rattle.name_directive.proofs.put_zone.Goals as goal
use Rattle.name_directive.proofs.put_zone.Goals.{then-lowered-via-then-lowered, then-lowered-via-else-lowered+then-contains}

pub returns-then-lowered : goal.returns-then-lowered
returns-then-lowered c =
    let a = c.args in
    let change = c.contains-lowered.ensures in
    λ limit.
    said
    (elim c.then-lowered.branch [
      | then-lowered-via-then-lowered w ↦ rw w.if-lowered.true (zone_lowered a.flags a.zone.now (sym change ∙ w.if-lowered.true))
      | then-lowered-via-else-lowered+then-contains w ↦ rw w.if-lowered.false (zone_raised a.flags a.zone.now (sym change ∙ w.if-lowered.false) (sym w.contains.ensures ∙ w.if-contains.true))
    ])
    (c.put_short.ensures limit)

pub returns : goal.returns
returns c =
    let a = c.args in
    λ limit. said (zone_same a.flags a.zone.now (sym c.contains-lowered.ensures ∙ c.if-lowered.false) (sym c.contains.ensures ∙ c.if-contains.false)) (c.put.ensures limit)
