-- Checks one after the other: of fields, of the bytes of a zone name.
use mathlib.Core.Path.{◌≡◌, refl, sym, ap, ◌∙◌}
use mathlib.Core.Bool.{Bool, true, false, ◌&&◌, and-true, and_assoc}
use mathlib.Core.List.{List, [], ◌∷◌, ◌++◌}
use Prim.Native.Nat.{ℕ}
use Rattle.rules.specs.declared.Record.{Record}
use Rattle.std.specs.List.{list_all}
use Rattle.rules.specs.Record.{Field, ok_field, all_ok, zone_byte_ok, zone_ok}

-- ## `a && b`: it is b where a holds, else a

and_held : {a : Bool} (b : Bool) → a ≡ true → b ≡ (a && b)
and_held b h = rw h

and_failed : {a : Bool} (b : Bool) → a ≡ false → a ≡ (a && b)
and_failed b h = rw h

-- ## Fields

module _ (r : Record) (zone : List ℕ) where
  all_join : (fs gs : List Field) → all_ok (fs ++ gs) r zone ≡ (all_ok fs r zone && all_ok gs r zone)
  unfolding all_ok
  all_join [] gs = refl
  all_join (f ∷ fs) gs = rw (all_join fs gs, and_assoc)

  pub alone : (f : Field) {a : Bool} → a ≡ ok_field f r zone → a ≡ all_ok (f ∷ []) r zone
  unfolding all_ok
  alone f h = h ∙ sym (and-true (ok_field f r zone))

  held : (fs gs : List Field) {a b : Bool} → a ≡ all_ok fs r zone → a ≡ true → b ≡ all_ok gs r zone → b ≡ all_ok (fs ++ gs) r zone
  held fs gs p h q = q ∙ and_held (all_ok gs r zone) (sym p ∙ h) ∙ sym (all_join fs gs)

  failed : (fs gs : List Field) {a : Bool} → a ≡ all_ok fs r zone → a ≡ false → a ≡ all_ok (fs ++ gs) r zone
  failed fs gs p h = p ∙ and_failed (all_ok gs r zone) (sym p ∙ h) ∙ sym (all_join fs gs)

  pub two_held : (f g : Field) {a b : Bool} → a ≡ ok_field f r zone → a ≡ true → b ≡ ok_field g r zone → b ≡ all_ok (f ∷ g ∷ []) r zone
  two_held f g p h q = held (f ∷ []) (g ∷ []) (alone f p) h (alone g q)

  pub two_failed : (f g : Field) {a : Bool} → a ≡ ok_field f r zone → a ≡ false → a ≡ all_ok (f ∷ g ∷ []) r zone
  two_failed f g p h = failed (f ∷ []) (g ∷ []) (alone f p) h

-- ## The bytes of a zone name

pub all_bytes : (zone : List ℕ) → list_all zone_byte_ok zone ≡ zone_ok zone
unfolding zone_ok
all_bytes [] = refl
all_bytes (b ∷ zone) = ap (λ (t : Bool). zone_byte_ok b && t) (all_bytes zone)
