-- `parsed_at`: what was parsed, with its positions moved.
use mathlib.Core.Path.{sym, ◌∙◌}
use native.Mathlib.Omega.{arith}
use Rattle.cursor.proofs.Positions.{parsed_there, ends_there}
use Rattle.cursor.proofs.parsed_at.Goals as goal

pub overflow_add-result : goal.overflow_add-result
overflow_add-result c = omega (arith, ends_there c.args.format.now c.args.i _ (sym c.in-Directive.is ∙ c.parsed_after.ensures))

pub overflow_add-result-in-Echo : goal.overflow_add-result-in-Echo
overflow_add-result-in-Echo c = omega (arith, ends_there c.args.format.now c.args.i _ (sym c.in-Echo.is ∙ c.parsed_after.ensures))

pub returns-in-Directive : goal.returns-in-Directive
returns-in-Directive c = parsed_there c.args.format.now c.args.i _ (sym c.in-Directive.is ∙ c.parsed_after.ensures)

pub returns-in-Echo : goal.returns-in-Echo
returns-in-Echo c = parsed_there c.args.format.now c.args.i _ (sym c.in-Echo.is ∙ c.parsed_after.ensures)

pub returns-in-Cut : goal.returns-in-Cut
returns-in-Cut c = parsed_there c.args.format.now c.args.i _ (sym c.in-Cut.is ∙ c.parsed_after.ensures)
