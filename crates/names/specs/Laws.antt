-- How many names each table has, how they are numbered, and that each has three letters.
use Rattle.std.specs.Prelude.{◌≡◌, refl, Bool, true, ◌&&◌, List, [], ◌∷◌, ℕ, ◌+◌, ◌-◌, ◌≤◌, ◌<◌, leb, length, get_or}
use Prim.Native.Nat.{zero, suc}
use native.Mathlib.Nat.{not-suc-le-zero, le_of_suc-le-suc}
use native.Mathlib.Omega.{arith}
use borrow.Author.Tests.{leb-true}
use Rattle.rules.proofs.RecordLaws.{both}
use Rattle.rules.specs.Name.{day_names, month_names, day_name, month_name}

pub days_counted : 6 < 0 + length day_names
unfolding day_names
days_counted = omega arith

pub months_counted : 12 < 1 + length month_names
unfolding month_names
months_counted = omega arith

pub days_numbered : (day : ℕ) → day_name day ≡ get_or day_names (day - 0) []
unfolding day_name
days_numbered day =
    let same : day - 0 ≡ day = omega arith in
    rw same refl

pub months_numbered : (month : ℕ) → month_name month ≡ get_or month_names (month - 1) []
unfolding month_name
months_numbered month = refl

abbrev all_long : List (List ℕ) → Bool
all_long [] = true
all_long (name ∷ names) = leb 3 (length name) && all_long names

long_at : (names : List (List ℕ)) → all_long names ≡ true → (k : ℕ) → k < length names → 3 ≤ length (get_or names k [])
long_at [] t k h = absurd (not-suc-le-zero h)
long_at (name ∷ names) t zero h = leb-true _ _ (both (leb 3 (length name)) (all_long names) t).0
long_at (name ∷ names) t (suc k) h = long_at names (both (leb 3 (length name)) (all_long names) t).1 k (le_of_suc-le-suc h)

pub days_long : (day : ℕ) → 0 ≤ day → day ≤ 6 → 3 ≤ length (day_name day)
unfolding day_name day_names
days_long day l h = long_at day_names refl day (omega (arith, h))

pub months_long : (month : ℕ) → 1 ≤ month → month ≤ 12 → 3 ≤ length (month_name month)
unfolding month_name month_names
months_long month l h = long_at month_names refl (month - 1) (omega (arith, l, h))
