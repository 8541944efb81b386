-- The fields checked; the day, the raised month and the year put.
use mathlib.Core.Bool.{true}
use mathlib.Core.List.{[], ◌∷◌, flatten, append-nil}
use native.Mathlib.Omega.{arith}
use Rattle.rules.specs.declared.Combination.TheVariants.{CombinationVmsDate}
use Rattle.rules.specs.Record.{month, day}
use Rattle.rules.specs.Writing.{combination_fields, combination_text}
use Rattle.text.proofs.RanLaws.{◌then◌, joined}
use Rattle.numbers.proofs.Signed.{widened}
use Rattle.names.proofs.CalendarLaws.{month_letters}
use Rattle.combination_directive.proofs.CombinedLaws.{Held, held_by, failed, written}
use borrow.Author.Rules.{rules}
use Rattle.combination_directive.proofs.vms_date.Goals as goal
use Rattle.combination_directive.proofs.vms_date.Goals.{In_default}

held : (c : In_default) → Held (month ∷ day ∷ []) c.args.«record»
held c = held_by c.date.ensures c.verdict.ensures c.in_default.is

pub returns-in-Err : goal.returns-in-Err
unfolding combination_fields
returns-in-Err c = λ upper. failed CombinationVmsDate _ c.date.ensures c.verdict.ensures c.in-Err.is c.refused_at.ensures

pub spaced_digits-day-requires : goal.spaced_digits-day-requires
spaced_digits-day-requires c = omega (arith, (held (goal.at.spaced_digits-day-requires c).In_default).ranges)

pub three-month_name-requires : goal.three-month_name-requires
three-month_name-requires c = (held (goal.at.three-month_name-requires c).In_default).ranges.0

pub returns : goal.returns
unfolding combination_fields combination_text flatten
returns c =
    let year = widened c.args.«record».year (search rules) in
    let k = held (goal.at.returns c).In_default in
    let name = month_letters true k.ranges.0.0 k.ranges.0.1 c.three-month_name.ensures in
    λ upper. written CombinationVmsDate _ k (λ f e. rw (year, ← c.spaced_digits-day.ensures, ← name, append-nil)) (λ limit. joined (c.put-next.ensures limit then c.put_decimal.ensures limit))
