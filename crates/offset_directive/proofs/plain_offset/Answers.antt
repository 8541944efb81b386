-- The same of the plain piece.
use mathlib.Core.Path.{refl}
use mir.Syntax.{w32}
use mir.ValLaws.{to_z-of_z}
use Rattle.rules.specs.declared.Spec.TheVariants.{Offset as offset}
use Rattle.printing.specs.Plain.{plain_piece}
use Rattle.offset_directive.proofs.PartsLaws.{offset_run}
use borrow.Author.Rules.{rules}
use Rattle.offset_directive.proofs.plain_offset.Goals as goal

pub returns : goal.returns
returns c =
    let a = c.args in
    λ zone. offset_run a.offset (plain_piece (offset a.offset)) a.«record» zone refl refl refl (to_z-of_z w32 _ (search rules)) c.zone_offset.ensures
