-- The sizing answers of "Stamps at the edges" (01), as one table.
use Rattle.std.specs.Prelude.{List, [], ◌∷◌, ℕ}
use Rattle.rules.specs.Ascii.{ascii}
use Rattle.rules.specs.Refusal.{Report}
use Rattle.longest.specs.Witness.{refuses, needing}

-- a format, the longest zone name, and the report
pub record SizingEdge : Type 0 where
  pub format : List ℕ
  pub longest : ℕ
  pub report : Report

abbrev row : List ℕ → ℕ → Report → SizingEdge
row format longest report = record { format = format; longest = longest; report = report }

unfoldable pub sizing_edges : List SizingEdge
sizing_edges =
    row [] 0 (needing 0)
    ∷ row (ascii "%Y") 0 (needing 11)
    ∷ row (ascii "%s") 0 (needing 20)
    ∷ row (ascii "%z") 0 (needing 10)
    ∷ row (ascii "%12z") 0 (needing 17)
    ∷ row (ascii "%:::z") 0 (needing 14)
    ∷ row (ascii "%B%-m") 0 (needing 10)
    ∷ row (ascii "%B%-m%-m") 0 (needing 12)
    ∷ row (ascii "%B%B%-m") 0 (needing 19)
    ∷ row (ascii "%10Z") 0 (needing 0)
    ∷ row (ascii "%10Z") 1 (needing 10)
    ∷ row (ascii "%65536Y") 0 (needing 65536)
    ∷ row (ascii "%65537Y") 0 (refuses 6)
    ∷ row (ascii "%") 0 (refuses 2)
    ∷ []
