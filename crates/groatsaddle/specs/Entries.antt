-- A C caller's record and answers, as the rules have them.
use Rattle.std.specs.Prelude.{◌≡◌, cond, not, ℕ, eqb, ℤ, pos}
use Rattle.std.proofs.Math.Option.{some, none}
use Rattle.rules.specs.declared.Record.{Record}
use Rattle.rules.specs.Record.{record_of}
use Rattle.rules.specs.Refusal.{Report}
use Rattle.rules.specs.Counter.{Reply, DatedBy, CountedBy}
use Rattle.groatsaddle.specs.declared.GsRecord.{GsRecord}
use Rattle.groatsaddle.specs.declared.GsAnswer.{GsAnswer}
use Rattle.groatsaddle.specs.declared.GsDated.{GsDated}
use Rattle.groatsaddle.specs.declared.GsCounted.{GsCounted}

-- the same fields; `is_utc` is yes unless it is 0
unfoldable pub record_from : GsRecord → Record
record_from r =
    record_of r.year r.month r.day r.hour r.minute r.second r.nanoseconds r.day_of_week r.day_of_year r.to_int
    (not (eqb r.is_utc 0)) r.utc_offset

unfoldable pub report_from : GsAnswer → Report
report_from a = record { number = a.refusal; bytes = a.length }

-- a C caller's record by its fields, in their order
abbrev pub gs_record_of : ℤ → ℕ → ℕ → ℕ → ℕ → ℕ → ℕ → ℕ → ℕ → ℤ → ℕ → ℤ → GsRecord
gs_record_of year month day hour minute second nanoseconds weekday day_of_year to_int utc offset =
    record {
      year = year;
      month = month;
      day = day;
      hour = hour;
      minute = minute;
      second = second;
      nanoseconds = nanoseconds;
      day_of_week = weekday;
      day_of_year = day_of_year;
      to_int = to_int;
      is_utc = utc;
      utc_offset = offset;
    }

-- and back: `is_utc` is 1 or 0
unfoldable pub record_to : Record → GsRecord
record_to r =
    gs_record_of r.year r.month r.day r.hour r.minute r.second r.nanoseconds r.day_of_week r.day_of_year r.to_int
    (cond r.is_utc 1 0) r.utc_offset

-- "no record": every field 0
abbrev pub no_record : GsRecord
no_record = gs_record_of (pos 0) 0 0 0 0 0 0 0 0 (pos 0) 0 (pos 0)

unfoldable pub dated_to : Reply Record → GsDated
dated_to a = record { refusal = a.number; «record» = elim a.value [ some r ↦ record_to r | none ↦ no_record ] }

unfoldable pub counted_to : Reply ℤ → GsCounted
counted_to a = record { refusal = a.number; count = elim a.value [ some c ↦ c | none ↦ pos 0 ] }

-- what the entries of a counter promise
pub record GsDatedBy (count offset : ℤ) (nanos utc : ℕ) (answer : GsDated) : Type 0 where
  pub reply : Reply Record
  pub by : DatedBy count offset nanos (not (eqb utc 0)) reply
  pub is : answer ≡ dated_to reply

pub record GsCountedBy (r : GsRecord) (answer : GsCounted) : Type 0 where
  pub reply : Reply ℤ
  pub by : CountedBy (record_from r) reply
  pub is : answer ≡ counted_to reply
