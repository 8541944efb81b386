-- A record from a count of seconds since 1970-01-01 UTC, and back (02, request 1).
use Rattle.std.specs.Prelude.{◌≡◌, Bool, ℕ, ◌+◌, ◌*◌, ◌<◌, ◌≤◌, ℤ, pos, ◌+ℤ◌, ◌-ℤ◌, ◌*ℤ◌, Result, Ok, Err}
use Rattle.std.proofs.Math.Option.{Option, none, some}
use Rattle.rules.specs.declared.Refusal.{Refusal}
use Rattle.rules.specs.declared.Record.{Record}
use Rattle.rules.specs.Record.{InI32, InI64}
use Rattle.rules.specs.Refusal.{number_of}
use Rattle.rules.specs.Decimal.{floor_div, floor_mod}
use Rattle.rules.specs.Calendar.{Exists, year_day, day_number, weekday_of, DateOf}

-- a number of the table, and what is answered where it is 0
pub record Reply (A : Type 0) : Type 0 where
  pub number : ℕ
  pub value : Option A

-- 0 and the record, or "no record"; 0 and the count, or none
unfoldable pub dated_reply : Result Record Refusal → Reply Record
dated_reply (Ok r) = record { number = 0; value = some r }
dated_reply (Err e) = record { number = number_of e; value = none }

unfoldable pub counted_reply : Result ℤ Refusal → Reply ℤ
counted_reply (Ok c) = record { number = 0; value = some c }
counted_reply (Err e) = record { number = number_of e; value = none }

-- the seconds of a record's clock since midnight
abbrev pub seconds_of : Record → ℕ
seconds_of r = r.hour * 3600 + r.minute * 60 + r.second

-- hour and minute in range, "second at most 59"
pub record OnClock (r : Record) : Type 0 where
  pub hour : r.hour ≤ 23
  pub minute : r.minute ≤ 59
  pub second : r.second ≤ 59

-- "Local time is count plus offset." "its weekday and day of year agree with its date. The caller passes is_utc; to_int is the count."
pub record RecordFor (count offset : ℤ) (nanos : ℕ) (utc : Bool) (r : Record) : Type 0 where
  pub date : DateOf (floor_div (count +ℤ offset) 86400) r.year r.month r.day
  pub clock : OnClock r
  pub time : seconds_of r ≡ floor_mod (count +ℤ offset) 86400
  pub nanoseconds : r.nanoseconds ≡ nanos
  pub weekday : r.day_of_week ≡ weekday_of (day_number r.year r.month r.day)
  pub day_of_year : r.day_of_year ≡ year_day r.year r.month r.day
  pub to_int : r.to_int ≡ count
  pub is_utc : r.is_utc ≡ utc
  pub utc_offset : r.utc_offset ≡ offset

-- "the step from count, offset and nanoseconds to a full record": "nanoseconds above 999,999,999" are InvalidTime, "before 7". "If that sum or
-- the year leaves its type, the answer is OutOfRange (7) and no record."
pub data DatedBy (count offset : ℤ) (nanos : ℕ) (utc : Bool) : Reply Record → Type 0 where
  too_many : 999999999 < nanos → DatedBy count offset nanos utc (record { number = 1; value = none })
  sum_leaves : nanos ≤ 999999999 → (InI64 (count +ℤ offset) → ⊥) → DatedBy count offset nanos utc (record { number = 7; value = none })
  year_leaves : {y : ℤ} {m d : ℕ} → nanos ≤ 999999999 → DateOf (floor_div (count +ℤ offset) 86400) y m d → (InI32 y → ⊥) → DatedBy count offset nanos utc (record { number = 7; value = none })
  made : {r : Record} → nanos ≤ 999999999 → InI64 (count +ℤ offset) → InI32 r.year → RecordFor count offset nanos utc r → DatedBy count offset nanos utc (record { number = 0; value = some r })

-- "The way back reads date, time and offset; a date that doesn't exist, one of these out of range or second 60 is InvalidTime"
pub record Countable (r : Record) : Type 0 where
  pub date : Exists r.year r.month r.day
  pub clock : OnClock r

unfoldable pub count_of : Record → ℤ
count_of r = day_number r.year r.month r.day *ℤ pos 86400 +ℤ pos (seconds_of r) -ℤ r.utc_offset

pub data CountedBy (r : Record) : Reply ℤ → Type 0 where
  invalid : (Countable r → ⊥) → CountedBy r (record { number = 1; value = none })
  counted : Countable r → CountedBy r (record { number = 0; value = some (count_of r) })
