-- A constant table is what its rule gives at each number.
use mathlib.Core.Path.{◌≡◌, refl}
use mathlib.Core.List.{List, [], ◌∷◌}
use Prim.Native.Nat.{ℕ, zero, suc, ◌<◌}
use native.Mathlib.Nat.{not-suc-le-zero, le_of_suc-le-suc}
use lib.ListN.{get_or}

-- a rule at the first n numbers, as a table: a constant table is held to it by computing both
abbrev tabled : (ℕ → ℕ) → ℕ → List ℕ
tabled rule zero = []
tabled rule (suc n) = rule zero ∷ tabled (λ k. rule (suc k)) n

pub entry : (rule : ℕ → ℕ) (n k : ℕ) → k < n → get_or (tabled rule n) k 0 ≡ rule k
entry rule zero k h = absurd (not-suc-le-zero h)
entry rule (suc n) zero h = refl
entry rule (suc n) (suc k) h = entry (λ m. rule (suc m)) n k (le_of_suc-le-suc h)
