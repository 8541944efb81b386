use mathlib.Core.Path.{refl}
use Rattle.longest.specs.Witness as sizes
use Rattle.sizing.proofs.witness.Goals as goal

pub returns : goal.returns
returns c = unfold sizes.witness in refl
