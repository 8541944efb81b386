-- `whole_hours`: each arm casts the absolute value.
use mathlib.Core.Bool.{true, false}
use Rattle.offset.proofs.HourLaws.{hour_not_nan, cast_fits, cast_is}
use Rattle.offset.proofs.whole_hours.Goals as goal

pub is_sign_negative-requires : goal.is_sign_negative-requires
is_sign_negative-requires c = hour_not_nan c.args.hour c.requires

pub float_to_int-result : goal.float_to_int-result
float_to_int-result c =
    cast_fits c.args.hour true c.is_sign_negative.ensures c.if-is_sign_negative.true c.requires

pub float_to_int-result-else-is_sign_negative : goal.float_to_int-result-else-is_sign_negative
float_to_int-result-else-is_sign_negative c =
    cast_fits c.args.hour false c.is_sign_negative.ensures c.if-is_sign_negative.false c.requires

pub returns-then-is_sign_negative : goal.returns-then-is_sign_negative
returns-then-is_sign_negative c = cast_is c.args.hour true c.is_sign_negative.ensures c.if-is_sign_negative.true

pub returns-else-is_sign_negative : goal.returns-else-is_sign_negative
returns-else-is_sign_negative c = cast_is c.args.hour false c.is_sign_negative.ensures c.if-is_sign_negative.false
