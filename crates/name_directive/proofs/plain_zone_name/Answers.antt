-- The check, and the name as it is.
use Rattle.name_directive.proofs.RunLaws.{zone_empty, plain_zone_named}
use Rattle.name_directive.proofs.plain_zone_name.Goals as goal

pub returns-then-zone-eq0 : goal.returns-then-zone-eq0
returns-then-zone-eq0 c = λ limit r. zone_empty _ r c.args.zone.now c.time_zone.ensures c.verdict-verdict.ensures c.if-zone-eq0.true (c.after_check-judged.ensures _ _ _)

pub returns : goal.returns
returns c =
    λ limit r. plain_zone_named r c.args.zone.now c.time_zone.ensures c.verdict-verdict.ensures c.if-zone-eq0.false (c.after_check-judged.ensures _ _ _) (c.put.ensures limit)
