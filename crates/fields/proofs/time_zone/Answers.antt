-- `all` over the bytes of the name.
use mathlib.Core.Path.{◌∙◌}
use Rattle.std.proofs.Common.{rules, tests}
use Rattle.std.proofs.lemmas.Iterator.{YieldsList-from_slice}
use Rattle.std.proofs.lemmas.Iterator.Search.{all_from_yields_List}
use Rattle.rules.specs.Record.{zone_byte_ok}
use Rattle.fields.proofs.Laws.{all_bytes}
use Rattle.fields.proofs.time_zone.Goals as goal

pub returns : goal.returns
returns c =
    let zone = c.args.zone.now in
    all_from_yields_List zone_byte_ok _ _ _ c.all.ensures.ran (YieldsList-from_slice zone cc) (λ x b q k. search (rules, tests)) ∙ all_bytes zone
