-- Any two answers of the counter's entries to a C caller are equal.
use mathlib.Core.Path.{◌≡◌, sym, ap, ◌∙◌}
use mathlib.Core.Bool.{not}
use Prim.Native.Nat.{ℕ}
use lib.Dec.{eqb}
use lib.IntN.{ℤ}
use Rattle.rules.proofs.CounterLaws.{same_dated, same_counted}
use Rattle.groatsaddle.specs.declared.GsRecord.{GsRecord}
use Rattle.groatsaddle.specs.declared.GsDated.{GsDated}
use Rattle.groatsaddle.specs.declared.GsCounted.{GsCounted}
use Rattle.groatsaddle.specs.Entries.{record_from, dated_to, counted_to, GsDatedBy, GsCountedBy}

pub gs_dated_once : {count offset : ℤ} {nanos utc : ℕ} (a b : GsDated) → GsDatedBy count offset nanos utc a → GsDatedBy count offset nanos utc b → a ≡ b
gs_dated_once {count} {offset} {nanos} {utc} a b p q = p.is ∙ ap dated_to (same_dated count offset nanos (not (eqb utc 0)) _ _ p.by q.by) ∙ sym q.is

pub gs_counted_once : {r : GsRecord} (a b : GsCounted) → GsCountedBy r a → GsCountedBy r b → a ≡ b
gs_counted_once {r} a b p q = p.is ∙ ap counted_to (same_counted (record_from r) _ _ p.by q.by) ∙ sym q.is
