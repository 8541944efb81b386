-- Each arm is the combination that was matched.
use Rattle.combination_directive.proofs.combined.Goals as goal

pub returns-in-CombinationDateTime : goal.returns-in-CombinationDateTime
returns-in-CombinationDateTime c = rw c.in-CombinationDateTime.is c.date_time.ensures

pub returns-in-CombinationDate : goal.returns-in-CombinationDate
returns-in-CombinationDate c = rw c.in-CombinationDate.is (c.date.ensures _)

pub returns-in-CombinationIso8601 : goal.returns-in-CombinationIso8601
returns-in-CombinationIso8601 c = rw c.in-CombinationIso8601.is (c.iso8601.ensures _)

pub returns-in-CombinationVmsDate : goal.returns-in-CombinationVmsDate
returns-in-CombinationVmsDate c = rw c.in-CombinationVmsDate.is (c.vms_date.ensures _)

pub returns-in-CombinationTime12h : goal.returns-in-CombinationTime12h
returns-in-CombinationTime12h c = rw c.in-CombinationTime12h.is (c.time12h.ensures _)

pub returns-in-CombinationHourMinute24h : goal.returns-in-CombinationHourMinute24h
returns-in-CombinationHourMinute24h c = rw c.in-CombinationHourMinute24h.is (c.hour_minute24h.ensures _)

pub returns-in-CombinationTime24h : goal.returns-in-CombinationTime24h
returns-in-CombinationTime24h c = rw c.in-CombinationTime24h.is (c.time24h.ensures _)
