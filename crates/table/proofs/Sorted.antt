-- A table whose numbers rise: what it has is found by halves.
use mathlib.Core.Path.{◌≡◌, refl, sym}
use mathlib.Core.Bool.{Bool, true, false, cond}
use mathlib.Core.List.{List, [], ◌∷◌}
use Prim.Native.Nat.{ℕ, zero, suc, ◌≤◌, ◌<◌}
use native.Mathlib.Omega.{arith}
use lib.Dec.{ltb, eqb}
use lib.ListN.{length, get_or}
use borrow.Author.Tests.{eq-eqb, ne_eqb, ltb-true}
use native.Mathlib.Decide.{dec_lt}
use Rattle.std.specs.Prelude.{Result, Ok, Err, is_ok}
use Rattle.std.specs.Result.{MatchResult}
use Rattle.std.specs.Ordering.{nat_cmp}
use Rattle.std.specs.List.Sorted.{IsBinarySearchResult}
use Rattle.std.proofs.lemmas.List.Sorted.{searched}
use Rattle.rules.specs.Reading.{member, rising}
use Rattle.rules.proofs.RecordLaws.{both}

rises : (x y : ℕ) (ys : List ℕ) → rising (x ∷ (y ∷ ys)) ≡ true → (x < y) × (rising (y ∷ ys) ≡ true)
rises x y ys h = let k = both (ltb x y) (rising (y ∷ ys)) h in (ltb-true x y k.0, k.1)

rising_tail : (x : ℕ) (xs : List ℕ) → rising (x ∷ xs) ≡ true → rising xs ≡ true
rising_tail x [] h = refl
rising_tail x (y ∷ ys) h = (rises x y ys h).1

rising_first : (x : ℕ) (xs : List ℕ) → rising (x ∷ xs) ≡ true → (j : ℕ) → j < length xs → x < get_or xs j 0
rising_first x [] h j l = absurd (omega arith)
rising_first x (y ∷ ys) h zero l = (rises x y ys h).0
rising_first x (y ∷ ys) h (suc j) l = let k = rises x y ys h in omega (arith, rising_first y ys k.1 j (omega arith))

-- the smaller of two numbers stands before the other
smaller_first : (xs : List ℕ) → rising xs ≡ true → (i j : ℕ) → i < length xs → j < length xs → get_or xs i 0 < get_or xs j 0 → i < j
smaller_first [] h i j l m k = absurd (omega arith)
smaller_first (x ∷ xs) h zero zero l m k = absurd (omega arith)
smaller_first (x ∷ xs) h zero (suc j) l m k = omega arith
smaller_first (x ∷ xs) h (suc i) zero l m k = absurd (omega (arith, rising_first x xs h i (omega arith)))
smaller_first (x ∷ xs) h (suc i) (suc j) l m k = omega (arith, smaller_first xs (rising_tail x xs h) i j (omega arith) (omega arith) k)

-- later ones are no smaller
ascending : (xs : List ℕ) → rising xs ≡ true → (i j : ℕ) → i ≤ j → j < length xs → get_or xs i 0 ≤ get_or xs j 0
ascending xs h i j l m =
    elim (dec_lt (get_or xs j 0) (get_or xs i 0)) [ yes k ↦ absurd (omega (arith, smaller_first xs h j i m (omega arith) k)) | no k ↦ omega arith ]

module _ (b : ℕ) where
  member_at : (xs : List ℕ) (k : ℕ) → k < length xs → get_or xs k 0 ≡ b → true ≡ member b xs
  unfolding member
  member_at [] k l e = absurd (omega arith)
  member_at (x ∷ xs) zero l e = rw (eq-eqb b x (sym e))
  member_at (x ∷ xs) (suc k) l e = rw (← member_at xs k (omega arith) e) (go (eqb b x))
    where
      go : (t : Bool) → true ≡ cond t true true
      go true = refl
      go false = refl

  member_none : (xs : List ℕ) → ((k : ℕ) → k < length xs → get_or xs k 0 ≡ b → ⊥) → false ≡ member b xs
  unfolding member
  member_none [] n = refl
  member_none (x ∷ xs) n = rw (ne_eqb b x (λ e. n 0 (omega arith) (sym e))) (member_none xs (λ k l e. n (suc k) (omega arith) e))

  pub found : (xs : List ℕ) (r : Result ℕ ℕ) → rising xs ≡ true → IsBinarySearchResult (λ y. nat_cmp y b) xs r → is_ok r ≡ member b xs
  found xs r h p = go r (searched xs b r p (ascending xs h))
    where
      go : (r : Result ℕ ℕ)
          → MatchResult r (λ i. (i < length xs) × (get_or xs i 0 ≡ b)) (λ i. (i ≤ length xs) × ((k : ℕ) → k < i → get_or xs k 0 < b) × ((k : ℕ) → i ≤ k → k < length xs → b < get_or xs k 0))
          → is_ok r ≡ member b xs
      go (Ok i) m = member_at xs i m.0 m.1
      go (Err i) m = member_none xs (λ k l e. elim (dec_lt k i) [ yes u ↦ omega (arith, m.1 k u) | no u ↦ omega (arith, m.2 k (omega arith) l) ])
