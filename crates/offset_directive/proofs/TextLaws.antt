-- The texts of the parts of an offset, from their digits.
use mathlib.Core.Path.{◌≡◌, ap, ap₂, ◌∙◌}
use mathlib.Core.Bool.{Bool}
use mathlib.Core.List.{List, [], ◌∷◌, ◌++◌}
use Prim.Native.Nat.{ℕ}
use Rattle.rules.specs.Decimal.{two}
use Rattle.rules.specs.Offset.{Form, hh:mm, hh:mm:ss, sign_of}
use Rattle.offset_directive.specs.Parts.{parts_text}

module _ (m s : ℕ) {a b : ℕ} (minute : a ∷ b ∷ [] ≡ two m) where
  pub colon_minute : 58 ∷ a ∷ b ∷ [] ≡ parts_text hh:mm m s
  unfolding parts_text
  colon_minute = ap (λ (l : List ℕ). 58 ∷ l) minute

  pub colons_minute_second : {c d : ℕ} → c ∷ d ∷ [] ≡ two s → 58 ∷ a ∷ b ∷ 58 ∷ c ∷ d ∷ [] ≡ parts_text hh:mm:ss m s
  unfolding parts_text
  colons_minute_second second = ap₂ (λ (l k : List ℕ). 58 ∷ (l ++ (58 ∷ k))) minute second

-- a sign, two digits of hours and the rest
pub short_text : (negative : Bool) (h m s : ℕ) {form other : Form} {sign a b : ℕ} {rest : List ℕ} → form ≡ other → sign ∷ [] ≡ sign_of negative → a ∷ b ∷ [] ≡ two h → rest ≡ parts_text form m s
    → sign ∷ a ∷ b ∷ rest ≡ sign_of negative ++ (two h ++ parts_text other m s)
short_text negative h m s f e d p =
    ap₂ (λ (x y : List ℕ). x ++ y) e (ap₂ (λ (x y : List ℕ). x ++ y) d (p ∙ ap (λ (k : Form). parts_text k m s) f))
