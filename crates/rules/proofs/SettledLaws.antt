-- What bytes settle is what comes first whatever follows, and no more than that is sure: "nothing of a directive not yet wholly read".
use Rattle.std.specs.Prelude.{Some, None}
use mathlib.Core.Path.{◌≡◌, refl, sym, ap, ◌∙◌}
use mathlib.Core.Bool.{Bool, true, false, cond}
use mathlib.Core.List.{List, [], ◌∷◌, ◌++◌, append-nil}
use Prim.Native.Nat.{ℕ}
use native.Mathlib.Omega.{arith}
use lib.ListN.{length, length-append}
use borrow.Author.Tests.{ltb-true, lt-ltb}
use Rattle.rules.specs.declared.Piece.{Piece}
use Rattle.rules.specs.declared.Modifier.TheVariants.{E, O}
use Rattle.rules.specs.declared.Reading.{Reading}
use Rattle.rules.specs.declared.Reading.TheVariants.{InFlags, InWidth, AtModifier, InColons}
use Rattle.rules.specs.declared.Spec.TheVariants.{Number as number}
use Rattle.rules.specs.declared.Number.TheVariants.{Year4Digits, YearRem100}
use Rattle.rules.specs.declared.Turn.{Turn}
use Rattle.rules.specs.declared.Turn.TheVariants.{Found}
use Rattle.rules.specs.Reading.{turn, open?, on_flag, on_letter, width_with, too_wide, member, modified, look_up, possible_specs, piece_of}
use Rattle.rules.specs.Format.{Item, echo, directive, cut, State, between, inside, step, on_turn, ending, read, settled, after, items}
use Rattle.rules.proofs.Resume.{resume}

-- the items xs stand first
abbrev pub Front : List Item → List Item → Type 0
Front xs ys = (zs : List Item) × (ys ≡ xs ++ zs)

heads : {a c : Item} {s t : List Item} → c ≡ a → s ≡ t → c ∷ s ≡ a ∷ t
heads e q = cc

-- what stands first of two lists that part ways behind s, stands first of s
fork : (xs s z z' u v : List Item) (x y : Item) → s ++ (x ∷ u) ≡ xs ++ z → s ++ (y ∷ v) ≡ xs ++ z' → (x ≡ y → ⊥) → Front xs s
fork [] s z z' u v x y p q n = (s, refl)
fork (a ∷ xs) [] z z' u v x y p q n = absurd (n (cc))
fork (a ∷ xs) (c ∷ s) z z' u v x y p q n =
    let e : c ≡ a = cc in
    let i = fork xs s z z' u v x y (cc) (cc) n in
    (i.0, heads e i.1)

found_one : (r : Reading) (t : List ℕ) (b : ℕ) (p : Piece) → turn r b ≡ Found p → read (inside r t) (b ∷ []) ≡ directive p ∷ []
unfolding read step ending
found_one r t b p e = ap (λ (u : Turn). (on_turn t b u).settles ++ ending (on_turn t b u).to) e

-- bytes after which the directive is another item than where the format ends here
record Other (r : Reading) (t : List ℕ) : Type 0 where
  bytes : List ℕ
  first : Item
  rest : List Item
  gives : read (inside r t) bytes ≡ first ∷ rest
  differs : cond (open? r) cut (echo t) ≡ first → ⊥

longer : (t : List ℕ) (b : ℕ) → echo t ≡ echo (t ++ (b ∷ [])) → ⊥
longer t b e = let q : t ≡ t ++ (b ∷ []) = cc in omega (arith, ap length q, length-append t (b ∷ []))

other : (r : Reading) (t : List ℕ) → Other r t
unfolding read ending step turn open? on_letter on_flag look_up possible_specs member modified
other (InFlags o) t =
    record { bytes = 89 ∷ []; first = directive (piece_of o None false (number Year4Digits)); rest = []; gives = refl; differs = λ e. let z : ◌≡◌ {A = ℕ} 0 1 = cc in omega arith }
other (InWidth o w) t = go (too_wide w) refl
  where
    go : (b : Bool) → too_wide w ≡ b → Other (InWidth o w) t
    go true e =
        let k : too_wide (width_with w 49) ≡ true = lt-ltb 2147483647 (width_with w 49) (omega (arith, ltb-true 2147483647 w e)) in
        record { bytes = 49 ∷ []; first = echo (t ++ (49 ∷ [])); rest = []; gives = rw k; differs = rw e (longer t 49) }
    go false e =
        record {
          bytes = 89 ∷ [];
          first = directive (piece_of o (Some w) false (number Year4Digits));
          rest = [];
          gives = found_one (InWidth o w) t 89 (piece_of o (Some w) false (number Year4Digits)) (rw e);
          differs = rw e (λ q. let z : ◌≡◌ {A = ℕ} 0 1 = cc in omega arith);
        }
other (AtModifier o w E) t =
    record { bytes = 121 ∷ []; first = directive (piece_of o w true (number YearRem100)); rest = []; gives = refl; differs = λ e. let z : ◌≡◌ {A = ℕ} 0 1 = cc in omega arith }
other (AtModifier o w O) t =
    record { bytes = 121 ∷ []; first = directive (piece_of o w true (number YearRem100)); rest = []; gives = refl; differs = λ e. let z : ◌≡◌ {A = ℕ} 0 1 = cc in omega arith }
other (InColons o w n) t = record { bytes = 58 ∷ []; first = echo (t ++ (58 ∷ [])); rest = []; gives = refl; differs = longer t 58 }

-- whatever follows, the settled items come first
pub settled_first : (f b : List ℕ) → Front (settled between f) (items (f ++ b))
settled_first f b = (read (after between f) b, resume between f b)

-- and no more is sure
pub settled_most : (f : List ℕ) (xs : List Item) → ((b : List ℕ) → Front xs (items (f ++ b))) → Front xs (settled between f)
unfolding read ending
settled_most f xs h = go (after between f) (λ b. resume between f b)
  where
    go : (st : State) → ((b : List ℕ) → items (f ++ b) ≡ settled between f ++ read st b) → Front xs (settled between f)
    go between q = ((h []).0, sym (append-nil (settled between f)) ∙ sym (q []) ∙ (h []).1)
    go (inside r t) q =
        let o = other r t in
        fork xs (settled between f) (h []).0 (h o.bytes).0 [] o.rest (cond (open? r) cut (echo t)) o.first
        (sym (q []) ∙ (h []).1) (ap (λ (s : List Item). settled between f ++ s) (sym o.gives) ∙ sym (q o.bytes) ∙ (h o.bytes).1) o.differs
