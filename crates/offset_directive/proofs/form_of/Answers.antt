-- The form that the arm knows.
use mathlib.Core.Path.{sym, ap}
use Rattle.rules.specs.declared.Offset.{Offset}
use Rattle.rules.specs.Offset.{form_of}
use Rattle.offset_directive.specs.Form.{as_form}
use Rattle.offset_directive.proofs.form_of.Goals as goal

pub returns-in-TimeZoneOffsetHourMinute : goal.returns-in-TimeZoneOffsetHourMinute
unfolding form_of as_form
returns-in-TimeZoneOffsetHourMinute c = λ z m s. sym (ap (λ (o : Offset). form_of o z) c.in-TimeZoneOffsetHourMinute.is)

pub returns-in-TimeZoneOffsetHourMinuteColon : goal.returns-in-TimeZoneOffsetHourMinuteColon
unfolding form_of as_form
returns-in-TimeZoneOffsetHourMinuteColon c = λ z m s. sym (ap (λ (o : Offset). form_of o z) c.in-TimeZoneOffsetHourMinuteColon.is)

pub returns-in-TimeZoneOffsetHourMinuteSecondColon : goal.returns-in-TimeZoneOffsetHourMinuteSecondColon
unfolding form_of as_form
returns-in-TimeZoneOffsetHourMinuteSecondColon c = λ z m s. sym (ap (λ (o : Offset). form_of o z) c.in-TimeZoneOffsetHourMinuteSecondColon.is)
