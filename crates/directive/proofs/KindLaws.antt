-- A spec that is known.
use mathlib.Core.Path.{◌≡◌, sym, ap}
use mathlib.Core.List.{List}
use Prim.Native.Nat.{ℕ}
use Rattle.rules.specs.declared.Record.{Record}
use Rattle.rules.specs.declared.Spec.{Spec}
use Rattle.rules.specs.declared.Piece.{Piece}
use Rattle.rules.specs.Writing.{spec_events}
use Rattle.text.specs.Ran.{Ran}
use Rattle.text.proofs.RanLaws.{same_events}

-- a run of the events of the spec that a match found
pub by_kind : {limit room : ℕ} {s k : Spec} (p : Piece) (r : Record) (zone : List ℕ) {l l' : List ℕ} {n n' : ℕ} → s ≡ k → Ran limit room (spec_events k p r zone) l n l' n' → Ran limit room (spec_events s p r zone) l n l' n'
by_kind p r zone e w = same_events (ap (λ (x : Spec). spec_events x p r zone) (sym e)) w
