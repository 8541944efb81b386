-- The run counts the text at the witness.
use mathlib.Core.Path.{sym, ◌∙◌}
use lib.ListN.{replicate}
use lib.Seq.{length-take-le}
use Rattle.rules.specs.Ascii.{byte}
use Rattle.rules.specs.Record.{longest_zone}
use Rattle.sizing.proofs.EntryLaws.{needed}
use Rattle.sizing.proofs.needed.Goals as goal

pub slice_bounds-run-end : goal.slice_bounds-run-end
slice_bounds-run-end c = sym (length-take-le _ (replicate longest_zone (byte "A")) c.requires.0.zone_short)

pub returns : goal.returns
returns c =
    let pre = c.requires in
    c.min.ensures ∙ needed _ _ _ c.witness.ensures pre.0 c.run-end.ensures pre.1 pre.2
