-- The items of a format followed by another are the items of the one and then of the other, where the first leaves nothing open.
use mathlib.Core.Path.{◌≡◌, refl, sym, ◌∙◌}
use mathlib.Core.Bool.{Bool, true, false, cond}
use mathlib.Core.List.{List, [], ◌∷◌, ◌++◌, append-nil}
use Prim.Native.Nat.{ℕ}
use native.Mathlib.Omega.{arith}
use Rattle.rules.specs.Reading.{open?}
use Rattle.rules.specs.Format.{Item, literal, echo, directive, cut, State, between, inside, ending, settled, after, items}
use Rattle.rules.proofs.Resume.{resume, read_split}

-- an item after which reading stands between two items, whatever follows
abbrev pub shut : Item → Bool
shut (literal b) = true
shut (echo text) = false
shut (directive p) = true
shut cut = false

-- the last item is no echo and no cut
unfoldable pub closes : List Item → Bool
closes [] = true
closes (i ∷ []) = shut i
closes (i ∷ (j ∷ is)) = closes (j ∷ is)

closes_last : (xs : List Item) (i : Item) → closes (xs ++ (i ∷ [])) ≡ shut i
unfolding closes
closes_last [] i = refl
closes_last (x ∷ []) i = refl
closes_last (x ∷ (y ∷ xs)) i = closes_last (y ∷ xs) i

never_shut : (b : Bool) (text : List ℕ) → shut (cond b cut (echo text)) ≡ false
never_shut true text = refl
never_shut false text = refl

pub nothing_open : (format : List ℕ) → closes (items format) ≡ true → after between format ≡ between
unfolding ending
nothing_open format h = go (after between format) (rw (read_split between format) at h)
  where
    go : (state : State) → closes (settled between format ++ ending state) ≡ true → state ≡ between
    go between q = refl
    go (inside r text) q =
        let z : ◌≡◌ {A = Bool} true false = sym q ∙ closes_last (settled between format) (cond (open? r) cut (echo text)) ∙ never_shut (open? r) text in
        let z' : ◌≡◌ {A = ℕ} 0 1 = cc in
        absurd (omega arith)

pub items_join : (a b : List ℕ) → closes (items a) ≡ true → items (a ++ b) ≡ items a ++ items b
unfolding ending
items_join a b h =
    let e = nothing_open a h in
    resume between a b ∙ rw (read_split between a, e, append-nil)
