-- What the plain directive of a letter does, and what a byte that is no letter gets.
use Rattle.std.specs.Prelude.{◌≡◌, List, ◌⊎◌, ℕ, Some}
use Rattle.rules.specs.declared.Record.{Record}
use Rattle.rules.specs.declared.Spec.{Spec}
use Rattle.rules.specs.Reading.{spec_of}
use Rattle.rules.specs.Writing.{spec_events}
use Rattle.text.specs.Ran.{Ran}
use Rattle.printing.specs.Plain.{plain_piece}

-- the directive s with no flag, no width and the default padding has run
abbrev pub RanPlain : ℕ → ℕ → Spec → Record → List ℕ → List ℕ → ℕ → List ℕ → ℕ → Type 0
RanPlain limit room s r zone l n l' n' = Ran limit room (spec_events s (plain_piece s) r zone) l n l' n'

-- so has that of the table's entry for b
pub record RanLetter (limit room b : ℕ) (r : Record) (zone l : List ℕ) (n : ℕ) (l' : List ℕ) (n' : ℕ) : Type 0 where
  pub spec : Spec
  pub entry : spec_of b ≡ Some spec
  pub ran : RanPlain limit room spec r zone l n l' n'

-- the answer for a byte that is no letter: one less than the unit of a refused place, so further than any text comes
abbrev pub not_a_letter : ℕ
not_a_letter = 131071

-- a letter has run; or the answer is that it is none, and no byte was written
abbrev pub Lettered : ℕ → ℕ → ℕ → Record → List ℕ → List ℕ → ℕ → List ℕ → ℕ → Type 0
Lettered limit room b r zone l n l' n' = RanLetter limit room b r zone l n l' n' ⊎ ((n' ≡ not_a_letter) × (l' ≡ l))
