-- The form by what the offset has.
use Rattle.offset_directive.proofs.FormLaws.{has_seconds, has_minutes, has_hours}
use Rattle.offset_directive.proofs.minimal_form.Goals as goal

pub returns-then-second-ne0 : goal.returns-then-second-ne0
returns-then-second-ne0 c = λ z m s. has_seconds z m s c.if-second-ne0.true

pub returns-then-minute-ne0 : goal.returns-then-minute-ne0
returns-then-minute-ne0 c = λ z m s. has_minutes z m s c.if-second-ne0.false c.if-minute-ne0.true

pub returns-else-minute-ne0 : goal.returns-else-minute-ne0
returns-else-minute-ne0 c = λ z m s. has_hours z m s c.if-second-ne0.false c.if-minute-ne0.false
