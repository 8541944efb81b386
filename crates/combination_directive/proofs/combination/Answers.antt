-- The pad, and the rest.
use mir.Syntax.{w32}
use mir.ValLaws.{to_z-of_z}
use borrow.Author.Rules.{rules}
use Rattle.combination_directive.proofs.CombinedLaws.{padded}
use Rattle.combination_directive.proofs.combination.Goals as goal

pub returns : goal.returns
returns c =
    let a = c.args in
    padded a.combination a.«record» a.piece (rw (to_z-of_z w32 a.«record».year (search rules)) at c.combination_length-length.ensures) c.contains-upper.ensures c.write_padding-next.ensures c.combined.ensures
