-- What the inner functions ask and answer.
use Rattle.std.specs.Prelude.{◌≡◌, Bool, true, false, List, [], ◌∷◌, ◌⊎◌, ℕ, ◌≤◌, ℤ}
use Rattle.rules.specs.declared.Number.{Number}
use Rattle.rules.specs.declared.Number.TheVariants.{YearIso8601, YearIso8601Rem100, WeekNumberIso8601}
use Rattle.rules.specs.declared.Record.{Record}
use Rattle.rules.specs.Record.{all_ok, weekday, day_of_year}
use Rattle.values.specs.declared.Value.{Value}

-- an answer's four parts
pub record Valued (ok : Bool) (number : ℤ) (width : ℕ) (space : Bool) (v : Value) : Type 0 where
  pub is : v ≡ record { ok = ok; number = number; width = width; space = space }
  pub narrow : width ≤ 5

-- the fields that week numbers are computed from are in range
abbrev pub InWeek : Record → Type 0
InWeek r = (zone : List ℕ) → all_ok (weekday ∷ day_of_year ∷ []) r zone ≡ true

-- an answer that goes by those fields
pub record Weekly (r : Record) (number : ℤ) (width : ℕ) (v : Value) : Type 0 where
  pub checked : (zone : List ℕ) → v.ok ≡ all_ok (weekday ∷ day_of_year ∷ []) r zone
  pub valued : Valued v.ok number width false v

-- `G`, `g` and `V`
abbrev pub OfIsoWeek : Number → Type 0
OfIsoWeek n = (n ≡ YearIso8601) ⊎ (n ≡ YearIso8601Rem100) ⊎ (n ≡ WeekNumberIso8601)
