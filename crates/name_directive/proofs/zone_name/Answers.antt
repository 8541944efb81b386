-- The check; of a name that is not empty the pad and the letters.
use Rattle.name_directive.proofs.RunLaws.{zone_empty, zone_named}
use Rattle.name_directive.proofs.zone_name.Goals as goal

pub returns-then-length-eq0 : goal.returns-then-length-eq0
returns-then-length-eq0 c = λ r. zone_empty _ r c.args.zone.now c.time_zone.ensures c.verdict-verdict.ensures c.if-length-eq0.true (c.after_check-judged.ensures _ _ _)

pub returns : goal.returns
returns c =
    λ r. zone_named c.args.piece r c.args.zone.now c.time_zone.ensures c.verdict-verdict.ensures c.if-length-eq0.false (c.after_check-judged.ensures _ _ _) c.string_padding-next.ensures (c.put_zone.ensures _)
