-- The fields checked; the clock and a half of the day put.
use mathlib.Core.List.{[], ◌∷◌, flatten}
use native.Mathlib.Omega.{arith}
use Rattle.rules.specs.declared.Combination.TheVariants.{CombinationTime12h}
use Rattle.rules.specs.Decimal.{places}
use Rattle.rules.specs.Record.{hour, minute, second}
use Rattle.rules.specs.Writing.{combination_fields, combination_text}
use Rattle.rules.proofs.WidthLaws.{hour12_below}
use Rattle.combination_directive.proofs.CombinedLaws.{Held, held_by, failed, written}
use Rattle.combination_directive.proofs.time12h.Goals as goal
use Rattle.combination_directive.proofs.time12h.Goals.{In_default}

held : (c : In_default) → Held (hour ∷ minute ∷ second ∷ []) c.args.«record»
held c = held_by c.clock.ensures c.verdict.ensures c.in_default.is

pub returns-in-Err : goal.returns-in-Err
unfolding combination_fields
returns-in-Err c = λ upper. failed CombinationTime12h _ c.clock.ensures c.verdict.ensures c.in-Err.is c.refused_at.ensures

pub clock_text-clock-requires : goal.clock_text-clock-requires
clock_text-clock-requires c = omega (arith, c.hour12-hour.ensures, hour12_below c.args.«record».hour, (held (goal.at.clock_text-clock-requires c).In_default).ranges)

pub returns : goal.returns
unfolding combination_fields combination_text flatten places
returns c =
    λ upper. written CombinationTime12h _ (held (goal.at.returns c).In_default) (λ f e. rw (c.clock_text-clock.ensures, c.hour12-hour.ensures, ← c.half.ensures)) c.put.ensures
