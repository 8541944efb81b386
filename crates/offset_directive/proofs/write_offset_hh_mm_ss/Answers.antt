-- The hours, then the minutes and the seconds, each behind a colon.
use native.Mathlib.Omega.{arith}
use Rattle.rules.specs.Offset.{hh:mm:ss}
use Rattle.rules.proofs.DecimalLaws.{two_is}
use Rattle.text.proofs.RanLaws.{said}
use Rattle.offset_directive.specs.Form.{as_form}
use Rattle.offset_directive.proofs.TextLaws.{colons_minute_second}
use Rattle.offset_directive.proofs.WriteLaws.{hour_then}
use Rattle.offset_directive.proofs.write_offset_hh_mm_ss.Goals as goal

pub returns : goal.returns
unfolding as_form
returns c = hour_then hh:mm:ss _ _ _ c.write_offset_hour-next.ensures
    (said
    (colons_minute_second _ _ (two_is c.args.parts.minute (omega (arith, c.requires.1.minutes)) c.tens.ensures c.ones.ensures)
    (two_is c.args.parts.second (omega (arith, c.requires.1.seconds)) c.tens-2.ensures c.ones-2.ensures))
    (c.put.ensures _))
