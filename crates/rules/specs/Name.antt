-- The names of days and months, and letters' case (01, "Writing a directive": "Names").
use Rattle.std.specs.Prelude.{cond, ◌&&◌, ◌||◌, List, [], ◌∷◌, map, ℕ, ◌+◌, ◌-◌, ltb, leb, get_or, take}
use Rattle.rules.specs.declared.Record.{Record}
use Rattle.rules.specs.declared.Flags.{Flags}
use Rattle.rules.specs.declared.Name.{Name}
use Rattle.rules.specs.declared.Name.TheVariants.{MonthName, MonthNameAbbr, MeridianLower, MeridianUpper, WeekDayName, WeekDayNameAbbr}
use Rattle.rules.specs.Ascii.{byte, ascii}

unfoldable pub day_names : List (List ℕ)
day_names =
    ascii "Sunday" ∷ ascii "Monday" ∷ ascii "Tuesday" ∷ ascii "Wednesday" ∷ ascii "Thursday" ∷ ascii "Friday" ∷ ascii "Saturday" ∷ []

unfoldable pub month_names : List (List ℕ)
month_names =
    ascii "January" ∷ ascii "February" ∷ ascii "March" ∷ ascii "April" ∷ ascii "May" ∷ ascii "June" ∷ ascii "July" ∷ ascii "August"
    ∷ ascii "September" ∷ ascii "October" ∷ ascii "November" ∷ ascii "December" ∷ []

-- Sunday is day 0, January month 1
unfoldable pub day_name : ℕ → List ℕ
day_name day = get_or day_names day []

unfoldable pub month_name : ℕ → List ℕ
month_name month = get_or month_names (month - 1) []

abbrev pub abbreviated : List ℕ → List ℕ
abbreviated name = take 3 name

-- a letter in upper or lower case, any other byte as it is
unfoldable pub upper : ℕ → ℕ
upper b = cond (leb (byte "a") b && leb b (byte "z")) (b - 32) b

unfoldable pub lower : ℕ → ℕ
lower b = cond (leb (byte "A") b && leb b (byte "Z")) (b + 32) b

pub data Case : Type 0 where
  as_it_is raised lowered : Case

unfoldable pub in_case : Case → List ℕ → List ℕ
in_case as_it_is text = text
in_case raised text = map upper text
in_case lowered text = map lower text

abbrev pub before12 : ℕ → List ℕ → List ℕ → List ℕ
before12 hour am pm = cond (ltb hour 12) am pm

unfoldable pub name_of : Name → Record → List ℕ
name_of MonthName r = month_name r.month
name_of MonthNameAbbr r = abbreviated (month_name r.month)
name_of MeridianLower r = before12 r.hour (ascii "am") (ascii "pm")
name_of MeridianUpper r = before12 r.hour (ascii "AM") (ascii "PM")
name_of WeekDayName r = day_name r.day_of_week
name_of WeekDayNameAbbr r = abbreviated (day_name r.day_of_week)

-- "`^` or `#` gives upper case names."
abbrev pub raised_by_both : Flags → Case
raised_by_both f = cond (f.upper || f.change) raised as_it_is

-- "`P`: am/pm, upper with `^` or `#`. `p`: AM/PM, lower with `#`."
unfoldable pub case_of : Name → Flags → Case
case_of MonthName f = raised_by_both f
case_of MonthNameAbbr f = raised_by_both f
case_of MeridianLower f = raised_by_both f
case_of MeridianUpper f = cond f.change lowered as_it_is
case_of WeekDayName f = raised_by_both f
case_of WeekDayNameAbbr f = raised_by_both f

-- "`Z`: .. `#` lowers and wins over `^`, which raises."
abbrev pub zone_case : Flags → Case
zone_case f = cond f.change lowered (cond f.upper raised as_it_is)
