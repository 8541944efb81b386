-- `offset_parts`: the laws of the signed hour, at the hour that `compute_offset_parts` gives.
use Rattle.offset.proofs.Signed.{hours_small, back}
use Rattle.offset.proofs.Laws.{number_is, u32_is, parts_from}
use Rattle.offset.proofs.offset_parts.Goals as goal

pub is_sign_negative-requires : goal.is_sign_negative-requires
is_sign_negative-requires c = number_is _ _ (hours_small c.args.utc_offset c.ranges.utc_offset) c.compute_offset_parts-parts.ensures.hour_value

pub whole_hours-requires : goal.whole_hours-requires
whole_hours-requires c = u32_is _ _ (hours_small c.args.utc_offset c.ranges.utc_offset) c.compute_offset_parts-parts.ensures.hour_value

pub returns : goal.returns
returns c =
    let z = c.args.utc_offset in
    let e = c.compute_offset_parts-parts.ensures in
    parts_from z _ c.args.is_utc c.args.left (back z c.ranges.utc_offset) (hours_small z c.ranges.utc_offset) e.hour_value
    c.is_sign_negative.ensures c.extra_place.ensures c.whole_hours.ensures e.minute_value e.second_value
