-- What is left of the directives answers as all of them do.
use mathlib.Core.Path.{◌∙◌}
use native.Mathlib.Omega.{arith}
use Rattle.sections.proofs.EntriesLaws.{entries_stop, entries_next, entries_end}
use Rattle.sections.proofs.entries_taken.Goals as goal

pub returns-then-not-entry_taken : goal.returns-then-not-entry_taken
returns-then-not-entry_taken c = entries_stop c.args.s.now _ c.entry_taken.ensures _ (omega arith) c.if-not-entry_taken.true ∙ c.loop-index.invariant

pub loop-index-preserved : goal.loop-index-preserved
loop-index-preserved c = entries_next c.args.s.now _ c.entry_taken.ensures _ _ _ (omega arith) (omega arith) c.if-not-entry_taken.false ∙ c.loop-index.invariant

pub returns : goal.returns
returns c = entries_end _ _ (omega arith) ∙ c.loop-index.invariant
