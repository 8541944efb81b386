-- The clock, then the date, then the count.
use Prim.Native.Nat.{◌<◌}
use native.Mathlib.Omega.{arith}
use mir.Syntax.{w32}
use mir.Val.{SFits}
use mir.ValLaws.{to_z-of_z}
use Rattle.rules.specs.Refusal.{number_of}
use Rattle.rules.specs.Calendar.{DateOf}
use Rattle.rules.specs.Counter.{seconds_of, OnClock, counted_reply, invalid}
use Rattle.calendar.proofs.CountLaws.{there, not_there, Near, date_near, days_asks, local_asks, count_asks, count_read, is_counted}
use Rattle.calendar.proofs.Refused.{refused_by}
use borrow.Author.Rules.{rules}
use Rattle.calendar.proofs.count_from_record.Goals as goal
use Rattle.calendar.proofs.count_from_record.Goals.{In_ok-day}

-- the date, once there is one
year_fits : (c : In_ok-day) → SFits w32 c.args.«record».year
year_fits c = search rules

date : (c : In_ok-day) → let r = c.args.«record» in DateOf c.in_ok-day.day r.year r.month r.day
date c = there (rw (to_z-of_z w32 _ (year_fits c)) at c.day_at.ensures) c.in_ok-day.ensures.ok_part

few : (c : In_ok-day) → Near c.in_ok-day.day
few c = date_near (year_fits c) (date c)

pub returns-then-hour-gt23 : goal.returns-then-hour-gt23
unfolding counted_reply number_of
returns-then-hour-gt23 c = invalid (λ v. omega (arith, v.clock.hour, v.clock.minute, v.clock.second))

pub returns-in_err-day : goal.returns-in_err-day
unfolding counted_reply number_of
returns-in_err-day c =
    let f : SFits w32 c.args.«record».year = search rules in
    let none = c.in_err-day.ensures.ok_part in
    rw (refused_by c.from_residual.result none c.in_err-day.ensures.value c.from_residual.ensures.1)
    (invalid (λ v. not_there (rw (to_z-of_z w32 _ f) at c.day_at.ensures) none v.date))

pub overflow_mul-local : goal.overflow_mul-local
overflow_mul-local c = days_asks (few (goal.at.overflow_mul-local c).In_ok-day)

pub overflow_add-local : goal.overflow_add-local
overflow_add-local c =
    let seconds : seconds_of c.args.«record» < 86400 = omega arith in
    local_asks (few (goal.at.overflow_add-local c).In_ok-day) seconds

pub overflow_sub-result : goal.overflow_sub-result
overflow_sub-result c =
    let d = (goal.at.overflow_sub-result c).In_ok-day in
    let f : SFits w32 c.args.«record».utc_offset = search rules in
    let seconds : seconds_of c.args.«record» < 86400 = omega arith in
    count_asks (few d) seconds f

pub returns : goal.returns
returns c =
    let d = (goal.at.returns c).In_ok-day in
    let f : SFits w32 c.args.«record».utc_offset = search rules in
    let clock : OnClock c.args.«record» = record { hour = omega arith; minute = omega arith; second = omega arith } in
    let seconds : seconds_of c.args.«record» < 86400 = omega arith in
    rw (count_read (few d) seconds f) (is_counted _ (date d) clock)
