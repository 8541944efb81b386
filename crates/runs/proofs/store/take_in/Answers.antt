-- The run laid behind what is kept.
use mathlib.Core.Path.{◌∙◌}
use mathlib.Core.List.{append_assoc}
use lib.ListN.{take}
use Rattle.text.proofs.OverlayLaws.{overlay_fits}
use Rattle.runs.proofs.store.take_in.Goals as goal

pub returns : goal.returns
returns c = let a = c.args in c.lay.ensures ∙ overlay_fits a.kept a.bytes.now a.store.now c.requires ∙ append_assoc (take a.kept a.store.now) a.bytes.now _
