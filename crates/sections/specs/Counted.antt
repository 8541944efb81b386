-- What the counts of a stored form say.
use Rattle.std.specs.Prelude.{◌≡◌, false, Option, Some, None, List, ℕ, ◌+◌, ◌*◌, length}
use Rattle.rules.specs.Stored.{sections, well_stored}
use Rattle.sections.specs.declared.Counts.{Counts}

-- l literal bytes and d directives: counts and bytes agree
pub record Agreed (s : List ℕ) (l d : ℕ) : Type 0 where
  pub literals : l ≡ (sections s).literals
  pub directives : d ≡ (sections s).directives
  pub bytes : length s ≡ 6 + l + d * 8 + (sections s).steps * 3

-- so they do; or the form is not well stored
abbrev pub Counted : List ℕ → Option Counts → Type 0
Counted s (Some c) = Agreed s c.literals c.directives
Counted s None = well_stored s ≡ false
