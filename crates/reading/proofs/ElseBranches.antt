-- What two `let .. else` in a row, for a directive and for an echo, leave of a parse answer.
use mathlib.Core.Path.{◌≡◌, refl}
use Prim.Native.Nat.{ℕ}
use Rattle.rules.specs.declared.Piece.{Piece}
use Rattle.rules.specs.declared.Parsed.{Parsed}
use Rattle.rules.specs.declared.Parsed.TheVariants.{Directive, Echo, Cut}

pub only_cut : (x : Parsed) → ((p : Piece) → (next : ℕ) → x ≡ Directive p next → ⊥) → ((next : ℕ) → x ≡ Echo next → ⊥) → x ≡ Cut
only_cut (Directive p next) a b = absurd (a p next refl)
only_cut (Echo next) a b = absurd (b next refl)
only_cut Cut a b = refl
