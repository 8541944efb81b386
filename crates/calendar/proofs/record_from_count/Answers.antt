-- Nanoseconds, the sum, the date, the year; then the record.
use Rattle.std.specs.Prelude.{OkIff}
use mathlib.Core.Path.{ap, ◌∙◌}
use native.Mathlib.Omega.{arith}
use mir.Syntax.{w32, w64}
use mir.Val.{SFits}
use mir.ValLaws.{to_z-of_z}
use lib.IntN.{ℤ}
use Rattle.rules.specs.Refusal.{number_of}
use Rattle.rules.specs.Decimal.{floor_div, floor_mod}
use Rattle.rules.specs.Counter.{dated_reply, too_many, sum_leaves}
use Rattle.calendar.specs.Inner.{DateFor}
use Rattle.numbers.proofs.Signed.{through}
use Rattle.calendar.proofs.DatedLaws.{summed, local_at, local_out, Split, year_in, out_of_range, is_made}
use Rattle.calendar.proofs.Refused.{refused_by}
use borrow.Author.Rules.{rules}
use Rattle.calendar.proofs.record_from_count.Goals as goal
use Rattle.calendar.proofs.record_from_count.Goals.{After-date_at-date, After-moment_of-moment, After-try_from}

split : (c : After-moment_of-moment) → let a = c.args in Split a.count a.utc_offset c.moment_of-moment.result.day c.moment_of-moment.result.second
split c =
    let l = local_at (summed _ c.ranges.count c.ranges.utc_offset c.from.ensures c.checked_add.ensures) c.in_ok-local.ensures.ok_part in
    let e = through w64 l.0 (record { sfits = l.1 }) in
    record { days = c.moment_of-moment.ensures.0 ∙ ap (λ (z : ℤ). floor_div z 86400) e; second = c.moment_of-moment.ensures.1 ∙ ap (λ (z : ℤ). floor_mod z 86400) e; fits = l.1 }

date : (c : After-date_at-date) → DateFor c.moment_of-moment.result.day c.date_at-date.result
date c =
    let f : SFits w64 c.moment_of-moment.result.day = search rules in
    rw (to_z-of_z w64 _ f) at c.date_at-date.ensures

year : (c : After-try_from) → let y = c.date_at-date.result.year in OkIff c.try_from.result (SFits w32 y) y
year c =
    let f : SFits w64 c.date_at-date.result.year = search rules in
    rw (to_z-of_z w64 _ f) at c.try_from.ensures

pub returns-then-nanoseconds-gt999999999 : goal.returns-then-nanoseconds-gt999999999
unfolding dated_reply number_of
returns-then-nanoseconds-gt999999999 c = too_many (omega arith)

pub returns-in_err-local : goal.returns-in_err-local
unfolding dated_reply number_of
returns-in_err-local c =
    let none = c.in_err-local.ensures.ok_part in
    rw (refused_by c.from_residual.result none c.in_err-local.ensures.value c.from_residual.ensures.1)
    (sum_leaves (omega arith) (local_out _ (summed _ c.ranges.count c.ranges.utc_offset c.from.ensures c.checked_add.ensures) none))

pub returns-in_default : goal.returns-in_default
returns-in_default c =
    let f : SFits w64 c.date_at-date.result.year = search rules in
    out_of_range _ _ (omega arith) (split (goal.at.returns-in_default c).After-moment_of-moment) (date (goal.at.returns-in_default c).After-date_at-date)
    (λ i. (rw (to_z-of_z w64 _ f) at c.in_default.ensures) (record { sfits = i }))

pub returns : goal.returns
returns c =
    let y = year_in (year (goal.at.returns c).After-try_from) c.in-Ok.is in
    rw (through w32 y.0 (record { sfits = y.1 }), to_z-of_z w64 _ c.ranges.count, to_z-of_z w32 _ c.ranges.utc_offset)
    (is_made _ _ (omega arith) (split (goal.at.returns c).After-moment_of-moment) (date (goal.at.returns c).After-date_at-date) y.1)
