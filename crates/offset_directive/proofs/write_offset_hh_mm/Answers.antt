-- The hours, then a colon and the minutes.
use native.Mathlib.Omega.{arith}
use Rattle.rules.specs.Offset.{hh:mm}
use Rattle.rules.proofs.DecimalLaws.{two_is}
use Rattle.text.proofs.RanLaws.{said}
use Rattle.offset_directive.specs.Form.{as_form}
use Rattle.offset_directive.proofs.TextLaws.{colon_minute}
use Rattle.offset_directive.proofs.WriteLaws.{hour_then}
use Rattle.offset_directive.proofs.write_offset_hh_mm.Goals as goal

pub returns : goal.returns
unfolding as_form
returns c = hour_then hh:mm _ _ _ c.write_offset_hour-next.ensures
    (said (colon_minute _ _ (two_is c.args.parts.minute (omega (arith, c.requires.1.minutes)) c.tens.ensures c.ones.ensures)) (c.put.ensures _))
