-- The laws of counting: a write against the room, a pad against the limit, and lists of events that count alike.
use mathlib.Core.Path.{◌≡◌, refl, sym, ap, ◌∙◌}
use mathlib.Core.Bool.{true, false}
use mathlib.Core.List.{List, [], ◌∷◌, ◌++◌}
use Prim.Native.Nat.{ℕ, ◌+◌, ◌≤◌, ◌<◌}
use native.Mathlib.Omega.{arith}
use borrow.Author.Tests.{le-leb}
use lib.Dec.{leb, leb→le}
use lib.ListN.{length, replicate, length-replicate}
use Rattle.rules.specs.Event.{put, pad, Event, write, check, Count, at, no, room_for, write_at, one, tally}
use Rattle.rules.proofs.EventLaws.{split_on, room_short, within_limit_lem, over_limit, tally_no, stop_first}
use Rattle.text.specs.Ran.{count_at}
use Rattle.text.proofs.PlaceLaws.{count_at_lem, by_place}

room_fits : (room m : ℕ) → m ≤ room → room_for room m ≡ at m
unfolding room_for
room_fits room m h = rw (le-leb m room h)

module _ (limit room : ℕ) where
  pad_within : (c count n : ℕ) → (0 < count → n + count ≤ limit) → one limit room (write (pad c count)) (at n) ≡ room_for room (n + count)
  unfolding one write_at
  pad_within c count n h = rw (within_limit_lem limit n count h)

  -- a pad within the limit is a write of its bytes
  pub pad_counts : (c count : ℕ) (es : List Event) (n : ℕ) → (0 < count → n + count ≤ limit) → tally limit room (write (put (replicate count c)) ∷ es) (at n) ≡ tally limit room (write (pad c count) ∷ es) (at n)
  unfolding tally one write_at
  pad_counts c count es n h =
      ap (tally limit room es) (ap (λ (k : ℕ). room_for room (n + k)) (length-replicate count c) ∙ sym (pad_within c count n h))

  -- the same behind a write, which ends within the room or is refused
  pub pad_after_counts : (a : List ℕ) (c count : ℕ) (es : List Event) (n : ℕ) → (0 < count → room + count ≤ limit) → tally limit room (write (put a) ∷ write (put (replicate count c)) ∷ es) (at n) ≡ tally limit room (write (put a) ∷ write (pad c count) ∷ es) (at n)
  unfolding tally one write_at room_for
  pad_after_counts a c count es n h =
      split_on (λ x. tally limit room (write (put (replicate count c)) ∷ es) x ≡ tally limit room (write (pad c count) ∷ es) x) (leb (n + length a) room)
      (λ k. pad_counts c count es (n + length a) (λ some. omega (arith, leb→le, h some))) (λ k. refl)

  -- a check that holds counts nothing
  pub check_counts : (es fs : List Event) (k : ℕ) (c : Count) → tally limit room (es ++ fs) c ≡ tally limit room (es ++ (check true k ∷ fs)) c
  unfolding tally one
  check_counts [] fs k (at n) = refl
  check_counts [] fs k (no number n) = refl
  check_counts (e ∷ es) fs k c = check_counts es fs k (one limit room e c)

  -- ## The place after an event

  pub put_counted : (t : List ℕ) (n r : ℕ) → r ≡ n + length t → r ≤ room → room ≤ 65536 → count_at r ≡ tally limit room (write (put t) ∷ []) (count_at n)
  unfolding tally one write_at
  put_counted t n r e h g =
      count_at_lem r (omega arith)
      ∙ sym (ap (tally limit room (write (put t) ∷ [])) (count_at_lem n (omega arith)) ∙ room_fits room (n + length t) (omega arith) ∙ ap at (sym e))

  pub put_refused : (t : List ℕ) (n r : ℕ) → n ≤ 65536 → room < n + length t → count_at r ≡ no 4 room → count_at r ≡ tally limit room (write (put t) ∷ []) (count_at n)
  unfolding tally one write_at
  put_refused t n r h g e = e ∙ sym (ap (tally limit room (write (put t) ∷ [])) (count_at_lem n h) ∙ room_short room (n + length t) g)

  pub pad_refused : (c count n r : ℕ) → n ≤ 65536 → 0 < count → limit < n + count → count_at r ≡ no 3 n → count_at r ≡ tally limit room (write (pad c count) ∷ []) (count_at n)
  unfolding tally one write_at
  pad_refused c count n r h some g e = e ∙ sym (ap (tally limit room (write (pad c count) ∷ [])) (count_at_lem n h) ∙ rw (over_limit limit n count some g))

  pub check_refused : (number n r : ℕ) → n ≤ 65536 → count_at r ≡ no number n → count_at r ≡ tally limit room (check false number ∷ []) (count_at n)
  check_refused number n r h e = e ∙ sym (ap (tally limit room (check false number ∷ [])) (count_at_lem n h) ∙ stop_first limit room [] number n)

  -- a refused place stays
  pub refused_counts : (es : List Event) (n : ℕ) → 65536 < n → count_at n ≡ tally limit room es (count_at n)
  refused_counts es n h = by_place (λ c. c ≡ tally limit room es c) n (λ k. absurd (omega arith)) (λ k. sym (tally_no limit room es _ _))
