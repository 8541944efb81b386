-- What an entry with an answer and a lent buffer promises, by its outcome; and its refusals.
use Rattle.std.specs.Prelude.{Result, Err}
use mathlib.Core.Path.{◌≡◌, refl}
use mathlib.Core.List.{List}
use Prim.Native.Nat.{ℕ}
use Rattle.rules.specs.declared.Refusal.{Refusal}
use Rattle.rules.specs.declared.Refusal.TheVariants.{InputTooLong}
use Rattle.rules.specs.Refusal.{number_of, numbered}
use Rattle.rules.specs.Event.{Outcome, refused, reported, buffer_after}

-- an answer and a buffer are what an outcome asks
abbrev pub Promised : Outcome → List ℕ → Result ℕ Refusal → List ℕ → Type 0
Promised outcome before answer after = (numbered answer ≡ reported outcome) × (after ≡ buffer_after outcome before)

-- a refusal, with the buffer as it was
pub left_alone : (before : List ℕ) (r : Refusal) {outcome : Outcome} → outcome ≡ refused (number_of r) → Promised outcome before (Err r) before
unfolding numbered reported buffer_after
left_alone before r e = rw e (refl, refl)

-- "5 first"
pub declined : (before : List ℕ) {outcome : Outcome} → outcome ≡ refused 5 → Promised outcome before (Err InputTooLong) before
unfolding number_of
declined before e = left_alone before InputTooLong e
