-- The fields checked, and four digits put.
use mathlib.Core.List.{[], ◌∷◌, flatten}
use native.Mathlib.Omega.{arith}
use Rattle.rules.specs.declared.Combination.TheVariants.{CombinationHourMinute24h}
use Rattle.rules.specs.Record.{hour, minute}
use Rattle.rules.specs.Writing.{combination_fields, combination_text}
use Rattle.combination_directive.proofs.CombinedLaws.{Held, held_by, failed, written}
use Rattle.combination_directive.proofs.hour_minute24h.Goals as goal
use Rattle.combination_directive.proofs.hour_minute24h.Goals.{In_default}

held : (c : In_default) → Held (hour ∷ minute ∷ []) c.args.«record»
held c = held_by c.hour_and_minute.ensures c.verdict.ensures c.in_default.is

pub returns-in-Err : goal.returns-in-Err
unfolding combination_fields
returns-in-Err c = λ upper. failed CombinationHourMinute24h _ c.hour_and_minute.ensures c.verdict.ensures c.in-Err.is c.refused_at.ensures

pub two_digits-hour-requires : goal.two_digits-hour-requires
two_digits-hour-requires c = omega (arith, (held (goal.at.two_digits-hour-requires c).In_default).ranges)

pub two_digits-minute-requires : goal.two_digits-minute-requires
two_digits-minute-requires c = omega (arith, (held (goal.at.two_digits-minute-requires c).In_default).ranges)

pub returns : goal.returns
unfolding combination_fields combination_text flatten
returns c =
    λ upper. written CombinationHourMinute24h _ (held (goal.at.returns c).In_default) (λ f e. rw (← c.two_digits-hour.ensures, ← c.two_digits-minute.ensures)) c.put.ensures
