-- What a combination does after its padding, and the clock's eight bytes.
use Rattle.std.specs.Prelude.{◌≡◌, Bool, ℕ}
use mathlib.Core.List.{List, [], ◌∷◌, flatten}
use Rattle.rules.specs.declared.Combination.{Combination}
use Rattle.rules.specs.declared.Flags.{Flags}
use Rattle.rules.specs.declared.Record.{Record}
use Rattle.rules.specs.declared.Spec.TheVariants.{Combination as combination}
use Rattle.rules.specs.Ascii.{ascii}
use Rattle.rules.specs.Decimal.{two}
use Rattle.rules.specs.Event.{put, Event, write, judged}
use Rattle.rules.specs.Writing.{combination_text, verdict_of}
use Rattle.text.specs.Ran.{Ran}

-- "then check their fields, then write"
abbrev pub combined_events : Combination → Flags → Record → List ℕ → List Event
combined_events c f r zone = judged (verdict_of (combination c) r zone) ∷ write (put (combination_text c f r)) ∷ []

-- these events run, for any flags of which the one that raises names is known
abbrev pub Combined : ℕ → Combination → Bool → Record → List ℕ → ℕ → List ℕ → ℕ → Type 0
Combined room c upper r l n l' n' =
    (limit : ℕ) (f : Flags) (zone : List ℕ) → f.upper ≡ upper → Ran limit room (combined_events c f r zone) l n l' n'

-- "HH:MM:SS"
abbrev pub clock_text : ℕ → ℕ → ℕ → List ℕ
clock_text hour minute second = flatten (two hour ∷ ascii ":" ∷ two minute ∷ ascii ":" ∷ two second ∷ [])
