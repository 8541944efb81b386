-- The events of the directive, by what the piece and the record say.
use mathlib.Core.Path.{sym, ap, ◌∙◌}
use mir.Syntax.{w32}
use mir.ValLaws.{to_z-of_z}
use Rattle.offset_directive.specs.Short.{is_spaces}
use Rattle.offset_directive.proofs.PartsLaws.{not_spaces, offset_run}
use borrow.Author.Rules.{rules}
use Rattle.offset_directive.proofs.offset.Goals as goal
use Rattle.offset_directive.proofs.offset.Goals.{in-Spaces, in_default}

pub returns : goal.returns
returns c =
    let a = c.args in
    λ zone.
    offset_run a.offset a.piece a.«record» zone (elim c.match-matches.branch [ in-Spaces w ↦ w.matches-is ∙ ap is_spaces (sym w.in-Spaces.is) | in_default w ↦ w.matches-is ∙ not_spaces _ w.in_default.not-Spaces ]) c.contains-left.ensures c.unwrap_or.ensures (to_z-of_z w32 _ (search rules)) c.zone_offset.ensures
