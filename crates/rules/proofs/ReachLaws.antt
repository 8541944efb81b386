-- How far the text of a list of events comes: no further than its length or the room, and no less far than where it began.
use mathlib.Core.Path.{◌≡◌}
use mathlib.Core.Bool.{true, false}
use mathlib.Core.List.{List, [], ◌∷◌}
use Prim.Native.Nat.{ℕ, ◌+◌, ◌≤◌, ◌<◌}
use native.Mathlib.Omega.{arith}
use Rattle.rules.specs.Event.{Event, write, check, write_length, length_of, at, one, tally, reach_of}
use Rattle.rules.proofs.EventLaws.{write_cases, tally_no}

module _ (limit room : ℕ) where
  pub reach_most : (es : List Event) (n : ℕ) → reach_of (tally limit room es (at n)) ≤ n + length_of es
  unfolding tally one length_of reach_of
  reach_most [] n = omega arith
  reach_most (write w ∷ es) n =
      write_cases limit room (λ c. reach_of (tally limit room es c) ≤ n + (write_length w + length_of es)) w n
      (λ fit. omega (arith, reach_most es (n + write_length w)))
      (λ short. rw (tally_no limit room es 4 room) (omega arith)) (λ far. rw (tally_no limit room es 3 n) (omega arith))
  reach_most (check true number ∷ es) n = reach_most es n
  reach_most (check false number ∷ es) n = rw (tally_no limit room es number n) (omega arith)

  pub reach_least : (es : List Event) (n : ℕ) → n ≤ room → n ≤ reach_of (tally limit room es (at n))
  unfolding tally one reach_of
  reach_least [] n h = omega arith
  reach_least (write w ∷ es) n h =
      write_cases limit room (λ c. n ≤ reach_of (tally limit room es c)) w n
      (λ fit. omega (arith, reach_least es (n + write_length w) fit))
      (λ short. rw (tally_no limit room es 4 room) h) (λ far. rw (tally_no limit room es 3 n) (omega arith))
  reach_least (check true number ∷ es) n h = reach_least es n h
  reach_least (check false number ∷ es) n h = rw (tally_no limit room es number n) (omega arith)

  pub reach_within : (es : List Event) (n most : ℕ) → n ≤ most → room ≤ most → reach_of (tally limit room es (at n)) ≤ most
  unfolding tally one reach_of
  reach_within [] n most h g = h
  reach_within (write w ∷ es) n most h g =
      write_cases limit room (λ c. reach_of (tally limit room es c) ≤ most) w n
      (λ fit. reach_within es (n + write_length w) most (omega arith) g)
      (λ short. rw (tally_no limit room es 4 room) g) (λ far. rw (tally_no limit room es 3 n) h)
  reach_within (check true number ∷ es) n most h g = reach_within es n most h g
  reach_within (check false number ∷ es) n most h g = rw (tally_no limit room es number n) h

  pub reach_room : (es : List Event) (n : ℕ) → n ≤ room → reach_of (tally limit room es (at n)) ≤ room
  reach_room es n h = reach_within es n room h (omega arith)

  -- where there is no room from the start, only checks pass
  pub no_room : (es : List Event) (n m : ℕ) → room < n → tally limit room es (at n) ≡ at m → m ≡ n
  unfolding tally one
  no_room [] n m h e = let q : n ≡ m = cc in omega arith
  no_room (write w ∷ es) n m h e =
      write_cases limit room (λ c. tally limit room es c ≡ at m → m ≡ n) w n
      (λ fit q. absurd (omega arith))
      (λ short q. let z : ◌≡◌ {A = ℕ} 0 1 = cc (tally_no limit room es 4 room) in absurd (omega arith))
      (λ far q. let z : ◌≡◌ {A = ℕ} 0 1 = cc (tally_no limit room es 3 n) in absurd (omega arith)) e
  no_room (check true number ∷ es) n m h e = no_room es n m h e
  no_room (check false number ∷ es) n m h e = let z : ◌≡◌ {A = ℕ} 0 1 = cc (tally_no limit room es number n) in absurd (omega arith)
