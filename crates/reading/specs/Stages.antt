-- What each answer inside the parser stands for, in the rules' turns.
use Rattle.std.specs.Prelude.{Bool, cond, List, ℕ, ◌+◌, eqb, drop, Option, Some, None}
use Rattle.rules.specs.declared.Spec.{Spec}
use Rattle.rules.specs.declared.Options.{Options}
use Rattle.rules.specs.declared.Offset.TheVariants.{TimeZoneOffsetHourMinuteColon, TimeZoneOffsetHourMinuteSecondColon, TimeZoneOffsetColonMinimal}
use Rattle.rules.specs.declared.Spec.TheVariants.{Offset as offset}
use Rattle.rules.specs.declared.Reading.TheVariants.{InFlags}
use Rattle.rules.specs.declared.Turn.{Turn}
use Rattle.rules.specs.declared.Turn.TheVariants.{More}
use Rattle.rules.specs.declared.Parsed.{Parsed}
use Rattle.rules.specs.declared.Parsed.TheVariants.{Directive, Echo}
use Rattle.rules.specs.Reading.{piece_of}
use Rattle.rules.specs.Format.{parsed_by, parse_from}

-- a flag, or else what is read of the byte
abbrev pub flag_turn : Option Options → Turn → Turn
flag_turn (Some o) other = More (InFlags o)
flag_turn None other = other

-- an entry of the table as a directive that ends before `next`, or as an echo up to there
abbrev pub entered : Options → Option ℕ → Bool → Option Spec → ℕ → Parsed
entered o w skipped (Some s) next = Directive (piece_of o w skipped s) next
entered o w skipped None next = Echo next

-- the offset form of a count of colons
unfoldable pub colon_entry : ℕ → Option Spec
colon_entry colons =
    cond (eqb colons 1) (Some (offset TimeZoneOffsetHourMinuteColon))
    (cond (eqb colons 2) (Some (offset TimeZoneOffsetHourMinuteSecondColon))
    (cond (eqb colons 3) (Some (offset TimeZoneOffsetColonMinimal))
    None))

-- the format from `at` on, where the turn of its byte there is known
abbrev pub turned : List ℕ → ℕ → Turn → Parsed
turned format at t = parsed_by t at (λ next. parse_from next (at + 1) (drop (at + 1) format))
