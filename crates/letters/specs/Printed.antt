-- What the writer of a plain number promises.
use Rattle.std.specs.Prelude.{Bool, List, ℕ, ℤ}
use Rattle.rules.specs.declared.Number.{Number}
use Rattle.rules.specs.declared.Record.{Record}
use Rattle.rules.specs.declared.Spec.TheVariants.{Number as number}
use Rattle.rules.specs.Writing.{spec_events}
use Rattle.text.specs.Ran.{Ran}
use Rattle.printing.specs.Plain.{plain_piece}
use Rattle.values.specs.declared.Value.{Value}
use Rattle.values.specs.Value.{ValueIs}

-- a value by its four parts
abbrev pub valued : Bool → ℤ → ℕ → Bool → Value
valued ok v width space = record { ok = ok; number = v; width = width; space = space }

-- the plain directive of every number whose value this is has run
abbrev pub Printed : ℕ → Value → List ℕ → ℕ → List ℕ → ℕ → Type 0
Printed room v l n l' n' =
    (limit : ℕ) (k : Number) (r : Record) (zone : List ℕ) → ValueIs k r v → Ran limit room (spec_events (number k) (plain_piece (number k)) r zone) l n l' n'
