-- The fields checked, and the clock put.
use mathlib.Core.List.{[], ◌∷◌}
use native.Mathlib.Omega.{arith}
use Rattle.rules.specs.declared.Combination.TheVariants.{CombinationTime24h}
use Rattle.rules.specs.Record.{hour, minute, second}
use Rattle.rules.specs.Writing.{combination_fields, combination_text}
use Rattle.combination_directive.proofs.CombinedLaws.{Held, held_by, failed, written}
use Rattle.combination_directive.proofs.time24h.Goals as goal
use Rattle.combination_directive.proofs.time24h.Goals.{In_default}

held : (c : In_default) → Held (hour ∷ minute ∷ second ∷ []) c.args.«record»
held c = held_by c.clock.ensures c.verdict.ensures c.in_default.is

pub returns-in-Err : goal.returns-in-Err
unfolding combination_fields
returns-in-Err c = λ upper. failed CombinationTime24h _ c.clock.ensures c.verdict.ensures c.in-Err.is c.refused_at.ensures

pub clock_text-text-requires : goal.clock_text-text-requires
clock_text-text-requires c = omega (arith, (held (goal.at.clock_text-text-requires c).In_default).ranges)

pub returns : goal.returns
unfolding combination_fields combination_text
returns c = λ upper. written CombinationTime24h _ (held (goal.at.returns c).In_default) (λ f e. c.clock_text-text.ensures) c.put.ensures
