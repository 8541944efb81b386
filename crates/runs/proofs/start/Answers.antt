-- The first check that fails.
use mathlib.Core.Path.{◌∙◌}
use lib.ListN.{length}
use Rattle.rules.proofs.HeldWays.{numbers_started}
use Rattle.runs.proofs.start.Goals as goal

pub returns : goal.returns
returns c =
    let a = c.args in
    numbers_started a.total (length a.zone.now) (length a.buffer.now) (length a.store.now) _ (c.number_of_check.ensures ∙ c.check_start.ensures)
