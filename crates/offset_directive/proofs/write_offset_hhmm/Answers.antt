-- The hours, then the minutes.
use Rattle.rules.specs.Offset.{hhmm}
use Rattle.offset_directive.specs.Parts.{parts_text}
use Rattle.offset_directive.specs.Form.{as_form}
use Rattle.offset_directive.proofs.WriteLaws.{hour_then}
use Rattle.offset_directive.proofs.write_offset_hhmm.Goals as goal

pub returns : goal.returns
unfolding as_form parts_text
returns c = hour_then hhmm _ _ _ c.write_offset_hour-next.ensures (c.put_two.ensures _)
