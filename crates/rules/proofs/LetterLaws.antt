-- A letter of the table ends a directive, whatever flags and width stand before it.
use Rattle.std.specs.Prelude.{Option, Some, None}
use mathlib.Core.Path.{◌≡◌, refl, ap, ◌∙◌}
use mathlib.Core.Bool.{Bool, true, false, cond}
use mathlib.Core.List.{List, [], ◌∷◌, map}
use Prim.Native.Nat.{ℕ}
use native.Mathlib.Omega.{arith}
use borrow.Author.Tests.{eqb-true, le-ltb}
use lib.Dec.{eqb}
use Rattle.rules.specs.declared.Options.{Options}
use Rattle.rules.specs.declared.Spec.{Spec}
use Rattle.rules.specs.declared.Reading.{Reading}
use Rattle.rules.specs.declared.Reading.TheVariants.{InFlags, InWidth}
use Rattle.rules.specs.declared.Turn.{Turn}
use Rattle.rules.specs.declared.Turn.TheVariants.{Found}
use Rattle.rules.specs.Reading.{on_flag, too_wide, Row, possible_specs, look_up, spec_of, piece_of, on_letter, turn}
use Rattle.rules.proofs.WidthsRead.{WidthOk}

-- where reading stands after the flags and the width
abbrev pub behind : Options → Option ℕ → Reading
behind o None = InFlags o
behind o (Some w) = InWidth o w

pub narrow : (w : ℕ) → WidthOk (Some w) → too_wide w ≡ false
narrow w h = le-ltb 2147483647 w h.1

module _ (o : Options) (w : Option ℕ) where
  abbrev turns : List Row → List Turn
  turns rows = map (λ (r : Row). turn (behind o w) r.letter) rows

  abbrev pieces : List Row → List Turn
  pieces rows = map (λ (r : Row). Found (piece_of o w false r.spec)) rows

-- no letter of the table is a flag, a digit, a colon, or `E` or `O`
letters_end : (o : Options) (w : Option ℕ) → WidthOk w → turns o w possible_specs ≡ pieces o w possible_specs
unfolding possible_specs turn on_flag on_letter look_up
letters_end o None h = refl
letters_end o (Some w) h = rw (narrow w h)

-- what a letter of some rows finds
by_rows : (o : Options) (w : Option ℕ) (rows : List Row) → turns o w rows ≡ pieces o w rows → (b : ℕ) (s : Spec) → look_up b rows ≡ Some s → turn (behind o w) b ≡ Found (piece_of o w false s)
unfolding look_up
by_rows o w [] e b s f = let z : ◌≡◌ {A = ℕ} 0 1 = cc in absurd (omega arith)
by_rows o w (r ∷ rs) e b s f = go (λ rest. by_rows o w rs rest b s) (eqb b r.letter) refl f
  where
    go : (turns o w rs ≡ pieces o w rs → look_up b rs ≡ Some s → turn (behind o w) b ≡ Found (piece_of o w false s)) →
        (t : Bool) → eqb b r.letter ≡ t → cond t (Some r.spec) (look_up b rs) ≡ Some s → turn (behind o w) b ≡ Found (piece_of o w false s)
    go later true q f =
        let here : b ≡ r.letter = eqb-true b r.letter q in
        let found : r.spec ≡ s = cc in
        let first : turn (behind o w) r.letter ≡ Found (piece_of o w false r.spec) = cc in
        ap (turn (behind o w)) here ∙ first ∙ ap (λ (x : Spec). Found (piece_of o w false x)) found
    go later false q f = let rest : turns o w rs ≡ pieces o w rs = cc in later rest f

pub letter_ends : (o : Options) (w : Option ℕ) → WidthOk w → (b : ℕ) (s : Spec) → spec_of b ≡ Some s → turn (behind o w) b ≡ Found (piece_of o w false s)
letter_ends o w h = by_rows o w possible_specs (letters_end o w h)
