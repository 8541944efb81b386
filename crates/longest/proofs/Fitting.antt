-- A list of events whose checks hold is done if it fits, is refused by the room if not, and never by a check.
use mathlib.Core.Path.{◌≡◌, refl}
use mathlib.Core.Bool.{true, false}
use mathlib.Core.List.{List, [], ◌∷◌}
use mathlib.Core.Logic.{◌⊎◌, inl, inr}
use Prim.Native.Nat.{ℕ, ◌+◌, ◌≤◌, ◌<◌}
use native.Mathlib.Omega.{arith}
use Rattle.rules.specs.Event.{Event, write, check, write_length, text_of, length_of, Count, at, no, one, tally, done, refused, outcome_of, run, Holds}
use Rattle.rules.proofs.EventLaws.{tally_no, tally_fits, write_cases}

-- how a count ends: with the text, or with an allowed refusal
abbrev pub Ends : (ℕ → Type 0) → Count → Type 0
Ends Allowed (at n) = Unit {0}
Ends Allowed (no number n) = Allowed number

abbrev pub ThreeOrFour : ℕ → Type 0
ThreeOrFour number = (number ≡ 3) ⊎ (number ≡ 4)

module _ (limit room : ℕ) where
  tally_short : (es : List Event) (n : ℕ) → Holds es → n ≤ room → room < n + length_of es → n + length_of es ≤ limit → tally limit room es (at n) ≡ no 4 room
  unfolding tally one length_of Holds
  tally_short [] n h r s l = absurd (omega arith)
  tally_short (write w ∷ es) n h r s l =
      write_cases limit room (λ c. tally limit room es c ≡ no 4 room) w n
      (λ fit. tally_short es (n + write_length w) h fit (omega arith) (omega arith)) (λ short. tally_no limit room es 4 room) (λ far. absurd (omega arith))
  tally_short (check true number ∷ es) n h r s l = tally_short es n h.1 r s l
  tally_short (check false number ∷ es) n h r s l = let z : ◌≡◌ {A = ℕ} 0 1 = cc h.0 in absurd (omega arith)

  pub ends_no : (Allowed : ℕ → Type 0) (es : List Event) (number n : ℕ) → Allowed number → Ends Allowed (tally limit room es (no number n))
  ends_no Allowed es number n a = rw (tally_no limit room es number n) a

  tally_ends : (es : List Event) (n : ℕ) → Holds es → Ends ThreeOrFour (tally limit room es (at n))
  unfolding tally one Holds
  tally_ends [] n h = tt
  tally_ends (write w ∷ es) n h =
      write_cases limit room (λ c. Ends ThreeOrFour (tally limit room es c)) w n (λ fit. tally_ends es (n + write_length w) h)
      (λ short. ends_no ThreeOrFour es 4 room (inr refl)) (λ far. ends_no ThreeOrFour es 3 n (inl refl))
  tally_ends (check true number ∷ es) n h = tally_ends es n h.1
  tally_ends (check false number ∷ es) n h = let z : ◌≡◌ {A = ℕ} 0 1 = cc h.0 in absurd (omega arith)

  -- the same of the outcome
  pub run_fits : (es : List Event) → Holds es → length_of es ≤ room → length_of es ≤ limit → run limit room es ≡ done (text_of es)
  unfolding run
  run_fits es h r l = rw (tally_fits limit room es 0 h (omega arith) (omega arith))

  pub run_short : (es : List Event) → Holds es → room < length_of es → length_of es ≤ limit → run limit room es ≡ refused 4
  unfolding run
  run_short es h s l = rw (tally_short es 0 h (omega arith) (omega arith) (omega arith))

  pub run_unchecked : (es : List Event) (number : ℕ) → Holds es → run limit room es ≡ refused number → ThreeOrFour number
  unfolding run
  run_unchecked es number h e = go (tally limit room es (at 0)) (tally_ends es 0 h) e
    where
      go : (c : Count) → Ends ThreeOrFour c → outcome_of c (text_of es) ≡ refused number → ThreeOrFour number
      go (at n) k q = let z : ◌≡◌ {A = ℕ} 0 1 = cc in absurd (omega arith)
      go (no found n) k q = let e : found ≡ number = cc in rw e at k
