-- The directives that are left, one by one.
use mathlib.Core.Path.{◌≡◌, refl, sym, ap, ◌∙◌}
use mathlib.Core.Bool.{Bool, true, false}
use mathlib.Core.List.{List}
use Prim.Native.Nat.{ℕ, zero, suc, ◌+◌, ◌≤◌, ◌<◌}
use native.Mathlib.Omega.{arith}
use lib.ListN.{drop}
use lib.Seq.{drop-drop}
use Rattle.rules.specs.Stored.{entry_taken, entries_taken}

module _ (s : List ℕ) (i : ℕ) {k : Bool} (taken : k ≡ entry_taken (drop i s)) where
  pub entries_stop : (n : ℕ) → 0 < n → k ≡ false → false ≡ entries_taken n (drop i s)
  unfolding entries_taken
  entries_stop zero h t = absurd (omega arith)
  entries_stop (suc n) h t = let e = sym taken ∙ t in rw e

  pub entries_next : (n n' i' : ℕ) → n ≡ suc n' → i' ≡ i + 8 → k ≡ true → entries_taken n' (drop i' s) ≡ entries_taken n (drop i s)
  unfolding entries_taken
  entries_next n n' i' p q t = let e = sym taken ∙ t in rw (p, q, e) (ap (entries_taken n') (sym (drop-drop 8 i s)))

pub entries_end : (n : ℕ) (s : List ℕ) → n ≤ 0 → true ≡ entries_taken n s
unfolding entries_taken
entries_end zero s h = refl
entries_end (suc n) s h = absurd (omega arith)
