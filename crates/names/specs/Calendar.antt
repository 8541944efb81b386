-- The tables of days and months: the names one after the other.
use Rattle.std.specs.Prelude.{Bool, cond, ℕ, length, take}
use mathlib.Core.List.{List, flatten}
use Rattle.rules.specs.Name.{Case, as_it_is, raised}

abbrev pub case_by : Bool → Case
case_by upper = cond upper raised as_it_is

-- where name k starts: behind the names before it
unfoldable pub name_start : List (List ℕ) → ℕ → ℕ
name_start names k = length (flatten (take k names))
