-- By the padding, and by the number's own fill where there is none.
use mathlib.Core.Path.{sym, ap, ◌∙◌}
use Rattle.values.specs.Value.{fill_by}
use Rattle.number_directive.proofs.NumberLaws.{own_fill, always_spaces, always_zeros}
use Rattle.number_directive.proofs.fills_zeros.Goals as goal

pub returns-in-Left : goal.returns-in-Left
returns-in-Left c = own_fill c.args.space ∙ ap (fill_by c.args.space) (sym c.in-Left.is)

pub returns-in-Spaces : goal.returns-in-Spaces
returns-in-Spaces c = always_spaces c.args.space ∙ ap (fill_by c.args.space) (sym c.in-Spaces.is)

pub returns-in-Zeros : goal.returns-in-Zeros
returns-in-Zeros c = always_zeros c.args.space ∙ ap (fill_by c.args.space) (sym c.in-Zeros.is)
