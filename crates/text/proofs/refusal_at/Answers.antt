-- An event's number is one of the table.
use mathlib.Core.Path.{ap, ◌∙◌}
use Rattle.rules.specs.Refusal.{number_of}
use Rattle.rules.proofs.OneAnswer.{event_number, number_known}
use Rattle.text.proofs.refusal_at.Goals as goal

pub returns : goal.returns
returns c = ap number_of c.refusal_of.ensures ∙ (number_known (event_number c.requires)).1
