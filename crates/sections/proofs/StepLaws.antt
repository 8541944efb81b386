-- The steps that are left, by the first of them.
use mathlib.Core.Path.{◌≡◌, refl}
use mathlib.Core.Bool.{Bool, true, false, cond, ◌&&◌}
use mathlib.Core.List.{List}
use Prim.Native.Nat.{ℕ, zero, suc, ◌+◌, ◌-◌, ◌≤◌, ◌<◌}
use native.Mathlib.Omega.{arith}
use borrow.Author.Tests.{eq-eqb, ne_eqb, le-leb, lt-leb, le-ltb, lt-ltb}
use lib.Dec.{leb, ltb, eqb}
use lib.ListN.{get_or, drop}
use lib.Seq.{drop-drop}
use Rattle.rules.specs.Stored.{two_of, steps_taken}
use Rattle.codes.proofs.EntryLaws.{byte_here}

module _ (s : List ℕ) (i d : ℕ) where
  abbrev tests : ℕ → ℕ → ℕ → ℕ → Bool
  tests b k n l =
      cond (eqb b 0) (leb k l && steps_taken n (drop (i + 3) s) d (l - k))
      (eqb b 1 && (ltb k d && steps_taken n (drop (i + 3) s) d l))

  module _ {k : ℕ} (e : k ≡ two_of (drop (i + 1) s)) where
    by_tests : (n l : ℕ) → tests (get_or s i 0) k n l ≡ steps_taken (suc n) (drop i s) d l
    unfolding steps_taken
    by_tests n l = rw (e, byte_here s i, ← drop-drop 1 i s, ← drop-drop 3 i s)

    -- literal bytes
    module _ (b : get_or s i 0 ≡ 0) where
      pub text_passes : (n l : ℕ) → 0 < n → l < k → false ≡ steps_taken n (drop i s) d l
      text_passes zero l h p = absurd (omega arith)
      text_passes (suc n) l h p = let f = eq-eqb (get_or s i 0) 0 b in let g = lt-leb k l p in rw (← by_tests n l, f, g)

      pub text_next : (n l : ℕ) → 0 < n → k ≤ l → steps_taken (n - 1) (drop (i + 3) s) d (l - k) ≡ steps_taken n (drop i s) d l
      text_next zero l h p = absurd (omega arith)
      text_next (suc n) l h p = let f = eq-eqb (get_or s i 0) 0 b in let g = le-leb k l p in let m : suc n - 1 ≡ n = omega arith in rw (← by_tests n l, f, g, m)

    -- "names no section"
    pub no_section : (n l : ℕ) → 0 < n → (get_or s i 0 ≡ 0 → ⊥) → (get_or s i 0 ≡ 1 → ⊥) → false ≡ steps_taken n (drop i s) d l
    no_section zero l h a b = absurd (omega arith)
    no_section (suc n) l h a b = let f = ne_eqb (get_or s i 0) 0 a in let g = ne_eqb (get_or s i 0) 1 b in rw (← by_tests n l, f, g)

    -- a directive
    module _ (b : get_or s i 0 ≡ 1) where
      other : eqb (get_or s i 0) 0 ≡ false
      other = ne_eqb (get_or s i 0) 0 (λ z. omega arith)

      pub piece_passes : (n l : ℕ) → 0 < n → d ≤ k → false ≡ steps_taken n (drop i s) d l
      piece_passes zero l h p = absurd (omega arith)
      piece_passes (suc n) l h p = let f = other in let g = eq-eqb (get_or s i 0) 1 b in let j = le-ltb k d p in rw (← by_tests n l, f, g, j)

      pub piece_next : (n l : ℕ) → 0 < n → k < d → steps_taken (n - 1) (drop (i + 3) s) d l ≡ steps_taken n (drop i s) d l
      piece_next zero l h p = absurd (omega arith)
      piece_next (suc n) l h p = let f = other in let g = eq-eqb (get_or s i 0) 1 b in let j = lt-ltb k d p in let m : suc n - 1 ≡ n = omega arith in rw (← by_tests n l, f, g, j, m)

pub steps_end : (n : ℕ) (s : List ℕ) (d l : ℕ) → n ≤ 0 → true ≡ steps_taken n s d l
unfolding steps_taken
steps_end zero s d l h = refl
steps_end (suc n) s d l h = absurd (omega arith)
