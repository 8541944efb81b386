-- `weekly` checks the week's fields.
use Rattle.values.proofs.Laws.{weekly}
use Rattle.values.proofs.weekly.Goals as goal

pub returns : goal.returns
returns c = weekly c.week.ensures c.zeros.ensures
