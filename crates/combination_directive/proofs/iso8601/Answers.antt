-- The fields checked; the year and four digits put.
use mathlib.Core.List.{[], ◌∷◌, flatten}
use native.Mathlib.Omega.{arith}
use Rattle.rules.specs.declared.Combination.TheVariants.{CombinationIso8601}
use Rattle.rules.specs.Record.{month, day}
use Rattle.rules.specs.Writing.{combination_fields, combination_text}
use Rattle.numbers.proofs.Signed.{widened}
use Rattle.text.proofs.RanLaws.{◌then◌, joined}
use Rattle.combination_directive.proofs.CombinedLaws.{Held, held_by, failed, written}
use borrow.Author.Rules.{rules}
use Rattle.combination_directive.proofs.iso8601.Goals as goal
use Rattle.combination_directive.proofs.iso8601.Goals.{In_default}

held : (c : In_default) → Held (month ∷ day ∷ []) c.args.«record»
held c = held_by c.date.ensures c.verdict.ensures c.in_default.is

pub returns-in-Err : goal.returns-in-Err
unfolding combination_fields
returns-in-Err c = λ upper. failed CombinationIso8601 _ c.date.ensures c.verdict.ensures c.in-Err.is c.refused_at.ensures

pub two_digits-month-requires : goal.two_digits-month-requires
two_digits-month-requires c = omega (arith, (held (goal.at.two_digits-month-requires c).In_default).ranges)

pub two_digits-day-requires : goal.two_digits-day-requires
two_digits-day-requires c = omega (arith, (held (goal.at.two_digits-day-requires c).In_default).ranges)

pub returns : goal.returns
unfolding combination_fields combination_text flatten
returns c =
    let year = widened c.args.«record».year (search rules) in
    λ upper. written CombinationIso8601 _ (held (goal.at.returns c).In_default) (λ f e. rw (year, ← c.two_digits-month.ensures, ← c.two_digits-day.ensures)) (λ limit. joined (c.put_year-next.ensures limit then c.put.ensures limit))
