-- With the left flag nothing, else the pad to the width.
use mathlib.Core.Path.{sym, ◌∙◌}
use Rattle.name_directive.proofs.RunLaws.{unpadded}
use Rattle.name_directive.proofs.string_padding.Goals as goal

pub returns-then-contains : goal.returns-then-contains
returns-then-contains c =
    let a = c.args in
    unpadded a.piece a.length (sym c.contains.ensures ∙ c.if-contains.true)
