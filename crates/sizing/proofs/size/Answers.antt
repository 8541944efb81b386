-- Too long; faulty; and by the length at the two witnesses.
use mathlib.Core.Path.{refl, sym}
use Rattle.std.proofs.lemmas.Result.{err_from_is_err_and}
use Rattle.rules.specs.Refusal.{number_in_check}
use Rattle.sizing.proofs.EntryLaws.{kept, format_long, zone_long, fault_refused, none_holds, holds_all}
use Rattle.sizing.proofs.size.Goals as goal

pub returns-then-format-gt-LONGEST_FORMAT : goal.returns-then-format-gt-LONGEST_FORMAT
returns-then-format-gt-LONGEST_FORMAT c =
    let w = format_long c.args.format.now c.args.longest_zone c.if-format-gt-LONGEST_FORMAT.true in
    record { answer = w.0; demand = w.1 }

pub returns-then-longest_zone-gt-LONGEST_ZONE : goal.returns-then-longest_zone-gt-LONGEST_ZONE
returns-then-longest_zone-gt-LONGEST_ZONE c =
    let w = zone_long c.args.format.now c.args.longest_zone c.if-format-gt-LONGEST_FORMAT.false c.if-longest_zone-gt-LONGEST_ZONE.true in
    record { answer = w.0; demand = w.1 }

pub returns-in_err-fault_of : goal.returns-in_err-fault_of
unfolding number_in_check
returns-in_err-fault_of c =
    let p = err_from_is_err_and c.from_residual.result c.from_residual.ensures.1 in
    let w = fault_refused c.args.format.now c.args.longest_zone c.if-format-gt-LONGEST_FORMAT.false c.if-longest_zone-gt-LONGEST_ZONE.false c.in_err-fault_of.ensures _ refl in
    rw (p.1, p.2) (record { answer = w.0; demand = w.1 })

pub returns-then-bytes-gt-LONGEST_BUFFER : goal.returns-then-bytes-gt-LONGEST_BUFFER
unfolding number_in_check
returns-then-bytes-gt-LONGEST_BUFFER c =
    let w = none_holds c.args.format.now c.args.longest_zone c.if-format-gt-LONGEST_FORMAT.false c.if-longest_zone-gt-LONGEST_ZONE.false c.in_ok-fault_of.ensures refl c.needed-september.ensures c.needed-december.ensures _ c.max-bytes.ensures c.if-bytes-gt-LONGEST_BUFFER.true in
    record { answer = w.0; demand = w.1 }

pub returns : goal.returns
unfolding number_in_check
returns c =
    let w = holds_all c.args.format.now c.args.longest_zone c.if-format-gt-LONGEST_FORMAT.false c.if-longest_zone-gt-LONGEST_ZONE.false c.in_ok-fault_of.ensures refl c.needed-september.ensures c.needed-december.ensures _ c.max-bytes.ensures c.if-bytes-gt-LONGEST_BUFFER.false in
    record { answer = w.0; demand = w.1 }

pub needed-september-requires : goal.needed-september-requires
unfolding number_in_check
needed-september-requires c = (kept c.if-format-gt-LONGEST_FORMAT.false c.if-longest_zone-gt-LONGEST_ZONE.false, sym c.in_ok-fault_of.ensures, refl)

pub needed-december-requires : goal.needed-december-requires
unfolding number_in_check
needed-december-requires c = (kept c.if-format-gt-LONGEST_FORMAT.false c.if-longest_zone-gt-LONGEST_ZONE.false, sym c.in_ok-fault_of.ensures, refl)
