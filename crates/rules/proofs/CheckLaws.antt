-- Lists of checks: all hold, or the first that fails gives its number.
use mathlib.Core.Path.{◌≡◌, refl}
use mathlib.Core.Bool.{true, false, cond}
use mathlib.Core.List.{List, [], ◌∷◌, ◌++◌}
use Prim.Native.Nat.{ℕ}
use native.Mathlib.Omega.{arith}
use Rattle.rules.specs.Event.{Event, write, check, at, no, reach_of, number_in, one, tally, Holds}
use Rattle.rules.proofs.EventLaws.{tally_no}
use Rattle.rules.proofs.FormatLaws.{Numbered}
use Rattle.rules.proofs.OneAnswer.{OfTable, number_known}

-- no event writes
unfoldable pub OnlyChecks : List Event → Type 0
OnlyChecks [] = Unit {0}
OnlyChecks (write w ∷ es) = ⊥
OnlyChecks (check ok number ∷ es) = OnlyChecks es

-- the number of the first check that fails, or 0
unfoldable pub first_of : List Event → ℕ
first_of [] = 0
first_of (write w ∷ es) = 0
first_of (check ok number ∷ es) = cond ok (first_of es) number

pub first_holds : (es : List Event) → OnlyChecks es → Numbered OfTable es → first_of es ≡ 0 → Holds es
unfolding OnlyChecks Numbered first_of Holds
first_holds [] o h e = tt
first_holds (write w ∷ es) o h e = absurd o
first_holds (check true number ∷ es) o h e = (refl, first_holds es o h.1 e)
first_holds (check false number ∷ es) o h e =
    let z : ◌≡◌ {A = ℕ} 0 1 = cc (number_known (h.0 refl)).0 in
    absurd (omega arith)

pub first_number : (es : List Event) → OnlyChecks es → Numbered OfTable es → (first_of es ≡ 0 → ⊥) → OfTable (first_of es)
unfolding OnlyChecks Numbered first_of
first_number [] o h e = absurd (e refl)
first_number (write w ∷ es) o h e = absurd o
first_number (check true number ∷ es) o h e = first_number es o h.1 e
first_number (check false number ∷ es) o h e = h.0 refl

-- some checks, and then others
pub first_stops : (xs ys : List Event) → (first_of xs ≡ 0 → ⊥) → first_of (xs ++ ys) ≡ first_of xs
unfolding first_of
first_stops [] ys h = absurd (h refl)
first_stops (write w ∷ xs) ys h = absurd (h refl)
first_stops (check true number ∷ xs) ys h = first_stops xs ys h
first_stops (check false number ∷ xs) ys h = refl

pub first_passes : (xs ys : List Event) → OnlyChecks xs → Numbered OfTable xs → first_of xs ≡ 0 → first_of (xs ++ ys) ≡ first_of ys
unfolding OnlyChecks Numbered first_of
first_passes [] ys o h e = refl
first_passes (write w ∷ xs) ys o h e = absurd o
first_passes (check true number ∷ xs) ys o h e = first_passes xs ys o h.1 e
first_passes (check false number ∷ xs) ys o h e =
    let z : ◌≡◌ {A = ℕ} 0 1 = cc (number_known (h.0 refl)).0 in
    absurd (omega arith)

module _ (limit room : ℕ) where
  -- checks that hold
  pub pass_all : (es : List Event) (n : ℕ) → OnlyChecks es → Holds es → tally limit room es (at n) ≡ at n
  unfolding OnlyChecks Holds tally one
  pass_all [] n o h = refl
  pass_all (write w ∷ es) n o h = absurd o
  pass_all (check true number ∷ es) n o h = pass_all es n o h.1
  pass_all (check false number ∷ es) n o h = let z : ◌≡◌ {A = ℕ} 0 1 = cc h.0 in absurd (omega arith)

  pub first_fails : (es : List Event) (n : ℕ) → OnlyChecks es → (first_of es ≡ 0 → ⊥) → tally limit room es (at n) ≡ no (first_of es) n
  unfolding OnlyChecks first_of tally one
  first_fails [] n o e = absurd (e refl)
  first_fails (write w ∷ es) n o e = absurd o
  first_fails (check true number ∷ es) n o e = first_fails es n o e
  first_fails (check false number ∷ es) n o e = tally_no limit room es number n

  pub first_counts : (es : List Event) (n : ℕ) → OnlyChecks es → (reach_of (tally limit room es (at n)) ≡ n) × (number_in (tally limit room es (at n)) ≡ first_of es)
  unfolding OnlyChecks first_of tally one reach_of number_in
  first_counts [] n o = (refl, refl)
  first_counts (write w ∷ es) n o = absurd o
  first_counts (check true number ∷ es) n o = first_counts es n o
  first_counts (check false number ∷ es) n o = rw (tally_no limit room es number n) (refl, refl)
