-- The fields checked; the names, the day, the clock and the year put.
use mathlib.Core.List.{[], ◌∷◌, flatten, append-nil}
use native.Mathlib.Omega.{arith}
use Rattle.rules.specs.declared.Combination.TheVariants.{CombinationDateTime}
use Rattle.rules.specs.Decimal.{places}
use Rattle.rules.specs.Record.{month, day, hour, minute, second, weekday}
use Rattle.rules.specs.Writing.{combination_fields, combination_text}
use Rattle.numbers.proofs.Signed.{widened}
use Rattle.text.proofs.RanLaws.{◌then◌, joined}
use Rattle.names.proofs.CalendarLaws.{day_letters, month_letters}
use Rattle.combination_directive.proofs.CombinedLaws.{Held, held_by, failed, written}
use borrow.Author.Rules.{rules}
use Rattle.combination_directive.proofs.date_time.Goals as goal
use Rattle.combination_directive.proofs.date_time.Goals.{In_default}

held : (c : In_default) → Held (weekday ∷ month ∷ day ∷ hour ∷ minute ∷ second ∷ []) c.args.«record»
unfolding combination_fields
held c = held_by c.date_time.ensures c.verdict.ensures c.in_default.is

pub returns-in-Err : goal.returns-in-Err
returns-in-Err c = failed CombinationDateTime _ c.date_time.ensures c.verdict.ensures c.in-Err.is c.refused_at.ensures

pub three-week_day_name-requires : goal.three-week_day_name-requires
three-week_day_name-requires c = (omega arith, (held (goal.at.three-week_day_name-requires c).In_default).ranges.0)

pub three-month_name-requires : goal.three-month_name-requires
three-month_name-requires c = (held (goal.at.three-month_name-requires c).In_default).ranges.1.0

pub spaced_digits-day-requires : goal.spaced_digits-day-requires
spaced_digits-day-requires c = omega (arith, (held (goal.at.spaced_digits-day-requires c).In_default).ranges)

pub clock_text-clock-requires : goal.clock_text-clock-requires
clock_text-clock-requires c = omega (arith, (held (goal.at.clock_text-clock-requires c).In_default).ranges)

pub returns : goal.returns
unfolding combination_fields combination_text flatten places
returns c =
    let year = widened c.args.«record».year (search rules) in
    let k = held (goal.at.returns c).In_default in
    let day_of_week = day_letters _ k.ranges.0 c.three-week_day_name.ensures in
    let month = month_letters _ k.ranges.1.0.0 k.ranges.1.0.1 c.three-month_name.ensures in
    written CombinationDateTime _ k (λ f e. rw (e, ← day_of_week, ← month, ← c.spaced_digits-day.ensures, c.clock_text-clock.ensures, year, append-nil)) (λ limit. joined (c.put-next.ensures limit then c.put_year.ensures limit))
