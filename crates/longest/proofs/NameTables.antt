-- How long the names of days and months are: each fact is one computed test of a table.
use mathlib.Core.Path.{◌≡◌, refl}
use mathlib.Core.Bool.{Bool, true, ◌&&◌}
use mathlib.Core.List.{List, [], ◌∷◌}
use Prim.Native.Nat.{ℕ, zero, suc, ◌-◌, ◌≤◌, ◌<◌}
use native.Mathlib.Omega.{arith}
use lib.Dec.{leb}
use lib.ListN.{length, drop, get_or}
use borrow.Author.Tests.{leb-true}
use Rattle.rules.specs.Name.{day_names, month_names, day_name, month_name}
use Rattle.rules.proofs.RecordLaws.{both}
use Rattle.longest.specs.Witness.{september, december}

abbrev every : (List ℕ → Bool) → List (List ℕ) → Bool
every test [] = true
every test (name ∷ names) = test name && every test names

-- a test that all names from place k on pass
named : (test : List ℕ → Bool) (names : List (List ℕ)) (k i : ℕ) → every test (drop k names) ≡ true → k ≤ i → i < length names → test (get_or names i []) ≡ true
named test [] k i t h l = absurd (omega arith)
named test (name ∷ names) zero zero t h l = (both (test name) (every test names) t).0
named test (name ∷ names) zero (suc i) t h l = named test names zero i (both (test name) (every test names) t).1 (omega arith) (omega arith)
named test (name ∷ names) (suc k) zero t h l = absurd (omega arith)
named test (name ∷ names) (suc k) (suc i) t h l = named test names k i t (omega arith) (omega arith)

pub month_letters : (m : ℕ) → 1 ≤ m → m ≤ 12 → 3 ≤ length (month_name m)
unfolding month_name month_names
month_letters m h l = leb-true _ _ (named (λ name. leb 3 (length name)) month_names 0 (m - 1) refl (omega arith) (omega arith))

pub day_letters : (d : ℕ) → d ≤ 6 → 3 ≤ length (day_name d)
unfolding day_name day_names
day_letters d l = leb-true _ _ (named (λ name. leb 3 (length name)) day_names 0 d refl (omega arith) (omega arith))

pub month_longest : (m : ℕ) → 1 ≤ m → m ≤ 12 → length (month_name m) ≤ length (month_name september)
unfolding month_name month_names
month_longest m h l =
    leb-true _ _ (named (λ name. leb (length name) (length (month_name september))) month_names 0 (m - 1) refl (omega arith) (omega arith))

-- from October on
pub late_month_longest : (m : ℕ) → 10 ≤ m → m ≤ 12 → length (month_name m) ≤ length (month_name december)
unfolding month_name month_names
late_month_longest m h l =
    leb-true _ _ (named (λ name. leb (length name) (length (month_name december))) month_names 9 (m - 1) refl (omega arith) (omega arith))

pub day_longest : (d : ℕ) → d ≤ 6 → length (day_name d) ≤ 9
unfolding day_name day_names
day_longest d l = leb-true _ _ (named (λ name. leb (length name) 9) day_names 0 d refl (omega arith) (omega arith))
