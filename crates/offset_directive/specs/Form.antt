-- The form that a value of the code stands for.
use Rattle.rules.specs.Offset.{Form, hh, hhmm, hh:mm, hh:mm:ss}
use Rattle.offset_directive.specs.declared.Form as declared
use Rattle.offset_directive.specs.declared.Form.TheVariants.{Hour, HourMinute, HourMinuteColon, HourMinuteSecond}

unfoldable pub as_form : declared.Form → Form
as_form Hour = hh
as_form HourMinute = hhmm
as_form HourMinuteColon = hh:mm
as_form HourMinuteSecond = hh:mm:ss
