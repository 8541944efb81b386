-- A run that fits comes to its length.
use Rattle.compiled.proofs.CompileLaws.{section_placed}
use Rattle.compiled.proofs.put.section_length.Goals as goal

pub returns : goal.returns
returns g c = section_placed _ _ c.requires c.put_section.ensures
