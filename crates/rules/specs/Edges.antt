-- Stamps at the edges (01), P1 to P12, as one table.
use Rattle.std.specs.Prelude.{Bool, true, false, List, [], ◌∷◌, ℕ, ℤ, pos, negsuc}
use Rattle.rules.specs.declared.Record.{Record}
use Rattle.rules.specs.Ascii.{ascii}
use Rattle.rules.specs.Record.{record_of}
use Rattle.rules.specs.Event.{Outcome, done, refused}

-- a format, a record, and the outcome with an empty zone name in a buffer of 64 bytes
pub record Edge : Type 0 where
  pub format : List ℕ
  pub time : Record
  pub outcome : Outcome

-- the fields that the table's formats read; the others are 0
abbrev at : ℤ → ℕ → ℕ → ℕ → ℕ → Bool → ℤ → Record
at year month day weekday day_of_year utc offset = record_of year month day 0 0 0 0 weekday day_of_year (pos 0) utc offset

abbrev minus_one : Record
minus_one = at (negsuc 0) 1 5 0 1 false (pos 0)

abbrev nine_hours : Record
nine_hours = at (pos 2000) 1 1 0 1 false (pos 32400)

abbrev universal : Record
universal = at (pos 2000) 1 1 0 1 true (pos 0)

abbrev end_of2024 : Record
end_of2024 = at (pos 2024) 12 30 1 365 false (pos 0)

abbrev start_of2021 : Record
start_of2021 = at (pos 2021) 1 3 0 3 false (pos 0)

abbrev row : List ℕ → Record → Outcome → Edge
row format time outcome = record { format = format; time = time; outcome = outcome }

unfoldable pub edges : List Edge
edges =
    row (ascii "%Y") minus_one (done (ascii "-0001"))
    ∷ row (ascii "%_Y") minus_one (done (ascii "   -1"))
    ∷ row (ascii "%v") minus_one (done (ascii " 5-JAN--001"))
    ∷ row (ascii "%z") nine_hours (done (ascii "+0900"))
    ∷ row (ascii "%_10z") nine_hours (done (ascii "      +900"))
    ∷ row (ascii "%-z") universal (done (ascii "-0000"))
    ∷ row (ascii "%G %V %U %W") end_of2024 (done (ascii "2025 01 52 53"))
    ∷ row (ascii "%G %V %U %W") start_of2021 (done (ascii "2020 53 01 00"))
    ∷ row (ascii "%5") universal (refused 2)
    ∷ row (ascii "%:") universal (done (ascii "%:"))
    ∷ row (ascii "%2147483648Y") universal (done (ascii "%2147483648Y"))
    ∷ row (ascii "%10Z") universal (done [])
    ∷ []
