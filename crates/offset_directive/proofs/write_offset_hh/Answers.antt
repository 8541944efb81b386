-- Hours alone.
use Rattle.offset_directive.specs.Form.{as_form}
use Rattle.offset_directive.proofs.WriteLaws.{hour_alone}
use Rattle.offset_directive.proofs.write_offset_hh.Goals as goal

pub returns : goal.returns
unfolding as_form
returns c = hour_alone _ _ _ c.write_offset_hour.ensures
