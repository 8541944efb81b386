-- The form that the arm knows.
use mathlib.Core.Path.{sym, ap}
use Rattle.rules.specs.Offset.{hh, hhmm, hh:mm, hh:mm:ss}
use Rattle.offset_directive.specs.Form.{as_form}
use Rattle.offset_directive.proofs.WriteLaws.{in_form}
use Rattle.offset_directive.proofs.write_long.Goals as goal

pub returns-in-Hour : goal.returns-in-Hour
unfolding as_form
returns-in-Hour c = in_form hh _ _ _ (ap as_form (sym c.in-Hour.is)) c.write_offset_hh.ensures

pub returns-in-HourMinute : goal.returns-in-HourMinute
unfolding as_form
returns-in-HourMinute c = in_form hhmm _ _ _ (ap as_form (sym c.in-HourMinute.is)) c.write_offset_hhmm.ensures

pub returns-in-HourMinuteColon : goal.returns-in-HourMinuteColon
unfolding as_form
returns-in-HourMinuteColon c = in_form hh:mm _ _ _ (ap as_form (sym c.in-HourMinuteColon.is)) c.write_offset_hh_mm.ensures

pub returns-in-HourMinuteSecond : goal.returns-in-HourMinuteSecond
unfolding as_form
returns-in-HourMinuteSecond c = in_form hh:mm:ss _ _ _ (ap as_form (sym c.in-HourMinuteSecond.is)) c.write_offset_hh_mm_ss.ensures
