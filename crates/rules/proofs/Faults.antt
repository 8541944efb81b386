-- What makes a format no valid one: its number is one that an event gives.
use mathlib.Core.Path.{◌≡◌, refl}
use mathlib.Core.Bool.{true}
use mathlib.Core.List.{List, [], ◌∷◌}
use Prim.Native.Nat.{ℕ, ◌≤◌}
use borrow.Author.Tests.{le-leb, eq-eqb, eqb-true}
use lib.Dec.{leb, eqb}
use lib.ListN.{length}
use Rattle.rules.specs.Record.{longest_format}
use Rattle.rules.specs.Refusal.{ByEvent, invalid_format_string}
use Rattle.rules.specs.Format.{Item, literal, echo, directive, cut, items, fault, valid}
use Rattle.rules.proofs.RecordLaws.{both}

pub fault_by_event : (is : List Item) → (fault is ≡ 0 → ⊥) → ByEvent (fault is)
unfolding fault
fault_by_event [] h = absurd (h refl)
fault_by_event (literal b ∷ is) h = fault_by_event is h
fault_by_event (echo text ∷ is) h = fault_by_event is h
fault_by_event (directive p ∷ is) h = fault_by_event is h
fault_by_event (cut ∷ is) h = invalid_format_string

-- "A format is valid if it has at most 4,096 bytes and doesn't end inside a directive."
module _ (format : List ℕ) where
  pub valid_of : length format ≤ longest_format → fault (items format) ≡ 0 → valid format ≡ true
  unfolding valid
  valid_of l e = rw (le-leb (length format) longest_format l, eq-eqb (fault (items format)) 0 e)

  pub faultless : valid format ≡ true → fault (items format) ≡ 0
  unfolding valid
  faultless v = eqb-true _ _ (both (leb (length format) longest_format) (eqb (fault (items format)) 0) v).1
