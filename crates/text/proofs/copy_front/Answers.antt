-- A text laid over the front is that text and what stood behind it.
use mathlib.Core.Path.{◌∙◌}
use Rattle.text.proofs.OverlayLaws.{overlay_taken}
use Rattle.text.proofs.copy_front.Goals as goal

pub returns : goal.returns
returns c = c.lay.ensures ∙ overlay_taken _ _ _ c.requires.1 c.requires.0
