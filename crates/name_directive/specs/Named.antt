-- What is written of a name: its pad, its letters by one flag of the code, and a byte in a case.
use Rattle.std.specs.Prelude.{Bool, cond, not, ◌||◌, List, [], ◌∷◌, ℕ, ◌≤◌}
use Rattle.rules.specs.declared.Flags.{Flags}
use Rattle.rules.specs.declared.Name.{Name}
use Rattle.rules.specs.declared.Name.TheVariants.{MonthName, MonthNameAbbr, MeridianLower, MeridianUpper, WeekDayName, WeekDayNameAbbr}
use Rattle.rules.specs.declared.Piece.{Piece}
use Rattle.rules.specs.declared.Record.{Record}
use Rattle.rules.specs.Ascii.{ascii}
use Rattle.rules.specs.Event.{Write}
use Rattle.rules.specs.Name.{day_name, month_name, abbreviated, upper, lower, in_case, before12}
use Rattle.rules.specs.Writing.{pad_to}
use Rattle.names.specs.Calendar.{case_by}

-- "unless the left flag is set, `pad` to the width"
abbrev pub padding : Piece → ℕ → List Write
padding p n = cond p.flags.left [] (pad_to p n ∷ [])

-- whether a name is written in capitals
unfoldable pub capitals : Name → Flags → Bool
capitals MonthName f = f.change || f.upper
capitals MonthNameAbbr f = f.change || f.upper
capitals MeridianLower f = f.change || f.upper
capitals MeridianUpper f = not f.change
capitals WeekDayName f = f.change || f.upper
capitals WeekDayNameAbbr f = f.change || f.upper

-- "am/pm" or "AM/PM"
abbrev pub meridian_text : Bool → ℕ → List ℕ
meridian_text capital hour = before12 hour (cond capital (ascii "AM") (ascii "am")) (cond capital (ascii "PM") (ascii "pm"))

-- the number of the record that a name goes by
unfoldable pub name_number : Name → Record → ℕ
name_number MonthName r = r.month
name_number MonthNameAbbr r = r.month
name_number MeridianLower r = r.hour
name_number MeridianUpper r = r.hour
name_number WeekDayName r = r.day_of_week
name_number WeekDayNameAbbr r = r.day_of_week

-- the numbers that have a name
unfoldable pub Named : Name → ℕ → Type 0
Named MonthName k = (1 ≤ k) × (k ≤ 12)
Named MonthNameAbbr k = (1 ≤ k) × (k ≤ 12)
Named MeridianLower k = Unit {0}
Named MeridianUpper k = Unit {0}
Named WeekDayName k = k ≤ 6
Named WeekDayNameAbbr k = k ≤ 6

-- and its letters
unfoldable pub letters_of : Name → Bool → ℕ → List ℕ
letters_of MonthName capital k = in_case (case_by capital) (month_name k)
letters_of MonthNameAbbr capital k = in_case (case_by capital) (abbreviated (month_name k))
letters_of MeridianLower capital k = meridian_text capital k
letters_of MeridianUpper capital k = meridian_text capital k
letters_of WeekDayName capital k = in_case (case_by capital) (day_name k)
letters_of WeekDayNameAbbr capital k = in_case (case_by capital) (abbreviated (day_name k))

-- a byte lowered, or else raised
abbrev pub byte_in : Bool → ℕ → ℕ
byte_in lowered b = cond lowered (lower b) (upper b)
