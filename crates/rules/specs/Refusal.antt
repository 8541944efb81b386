-- The refusal table (01, "Refusal table"), and what an entry reports.
use Rattle.std.specs.Prelude.{cond, ℕ, eqb, Result, Ok, Err}
use Rattle.rules.specs.declared.Refusal.{Refusal}
use Rattle.rules.specs.declared.UnknownNumber.{UnknownNumber}
use Rattle.rules.specs.declared.Refusal.TheVariants.{InvalidTime, InvalidFormatString, FormattedStringTooLarge, WriteZero, InputTooLong, NoBuffer, OutOfRange, LengthMismatch, BadStored}

unfoldable pub number_of : Refusal → ℕ
number_of InvalidTime = 1
number_of InvalidFormatString = 2
number_of FormattedStringTooLarge = 3
number_of WriteZero = 4
number_of InputTooLong = 5
number_of NoBuffer = 6
number_of OutOfRange = 7
number_of LengthMismatch = 10
number_of BadStored = 11

-- the refusal with a number of the table. A number that is none of the table's, as only a state that no call has made can have, stands for 4
unfoldable pub refusal_at : ℕ → Refusal
refusal_at n =
    cond (eqb n 1) InvalidTime
    (cond (eqb n 2) InvalidFormatString
    (cond (eqb n 3) FormattedStringTooLarge
    (cond (eqb n 5) InputTooLong
    (cond (eqb n 6) NoBuffer
    (cond (eqb n 7) OutOfRange
    (cond (eqb n 10) LengthMismatch
    (cond (eqb n 11) BadStored
    WriteZero)))))))

-- the refusal with a number of the table, and for any other number that it is none of the table's
unfoldable pub refusal_with : ℕ → Result Refusal UnknownNumber
refusal_with n =
    cond (eqb n 1) (Ok InvalidTime)
    (cond (eqb n 2) (Ok InvalidFormatString)
    (cond (eqb n 3) (Ok FormattedStringTooLarge)
    (cond (eqb n 5) (Ok InputTooLong)
    (cond (eqb n 6) (Ok NoBuffer)
    (cond (eqb n 7) (Ok OutOfRange)
    (cond (eqb n 10) (Ok LengthMismatch)
    (cond (eqb n 11) (Ok BadStored)
    (cond (eqb n 4) (Ok WriteZero)
    (Err (record { 0 = n }))))))))))

-- what a check comes to: 0, or its refusal's number
unfoldable pub number_in_check : Result (Unit {0}) Refusal → ℕ
number_in_check (Ok _) = 0
number_in_check (Err r) = number_of r

-- the refusals that an event of a format can give
pub data ByEvent : ℕ → Type 0 where
  invalid_time : ByEvent 1
  invalid_format_string : ByEvent 2
  formatted_string_too_large : ByEvent 3
  write_zero : ByEvent 4

-- a number of the table, and a length or a size
pub record Report : Type 0 where
  pub number : ℕ
  pub bytes : ℕ

-- what an answer reports: 0 and its length, or its refusal and length 0
unfoldable pub numbered : Result ℕ Refusal → Report
numbered (Ok n) = record { number = 0; bytes = n }
numbered (Err r) = record { number = number_of r; bytes = 0 }
