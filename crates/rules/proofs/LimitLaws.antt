-- The size limit is tested by pads alone; to test every write against it would change no outcome.
use mathlib.Core.Path.{◌≡◌, refl, sym, ap, ◌∙◌}
use mathlib.Core.Bool.{Bool, true, false, cond}
use mathlib.Core.List.{List, [], ◌∷◌}
use Prim.Native.Nat.{ℕ, ◌+◌, ◌≤◌}
use native.Mathlib.Omega.{arith}
use borrow.Author.Tests.{leb-true}
use lib.Dec.{leb}
use lib.ListN.{length}
use Rattle.rules.specs.declared.Record.{Record}
use Rattle.rules.specs.Record.{longest_format, longest_zone, longest_buffer}
use Rattle.rules.specs.Event.{Write, put, pad, Event, write, check, write_length, text_of, Count, at, no, room_for, within_limit, write_at, one, tally, Outcome, outcome_of, run}
use Rattle.rules.specs.Writing.{events_of}
use Rattle.rules.specs.Format.{items, read, ending, events, limit_of, format_events, formatted}
use Rattle.rules.specs.Size.{Typed}
use Rattle.rules.proofs.EventLaws.{within_limit_lem, write_cases, tally_no}
use Rattle.rules.proofs.RecordLaws.{by_test}
use Rattle.rules.proofs.PutsShort.{longest_put, Short, ReachedShort, puts_short}

-- "Only pads by `SizeLimiter::pad` can give 3"
pub put_gives_no_3 : (limit room : ℕ) (bytes : List ℕ) (n m : ℕ) → write_at limit room (put bytes) n ≡ no 3 m → ⊥
unfolding write_at room_for
put_gives_no_3 limit room bytes n m =
    by_test (λ c. c ≡ no 3 m → ⊥) (leb (n + length bytes) room) (λ t e. let z : ◌≡◌ {A = ℕ} 0 1 = cc in omega arith) (λ f e. let z : ◌≡◌ {A = ℕ} 4 3 = cc in omega arith)

-- ## Every write tested

-- a write of either kind as a pad is: "tested whole against the size limit first (3), then against the room (4)"
unfoldable pub tested_write_at : ℕ → ℕ → Write → ℕ → Count
tested_write_at limit room w n = cond (within_limit limit n (write_length w)) (room_for room (n + write_length w)) (no 3 n)

unfoldable pub tested_one : ℕ → ℕ → Event → Count → Count
tested_one limit room e (no number n) = no number n
tested_one limit room (write w) (at n) = tested_write_at limit room w n
tested_one limit room (check ok number) (at n) = cond ok (at n) (no number n)

unfoldable pub tested_tally : ℕ → ℕ → List Event → Count → Count
tested_tally limit room [] c = c
tested_tally limit room (e ∷ es) c = tested_tally limit room es (tested_one limit room e c)

unfoldable pub tested_formatted : List ℕ → List ℕ → Record → ℕ → Outcome
tested_formatted format zone r room =
    outcome_of (tested_tally (limit_of (length format)) room (format_events format zone r room) (at 0)) (text_of (format_events format zone r room))

-- ## The same count

module _ (limit room : ℕ) where
  -- the count with every write tested is the count
  abbrev Same : List Event → Count → Type 0
  Same es c = tested_tally limit room es c ≡ tally limit room es c

  tested_no : (es : List Event) (number n : ℕ) → tested_tally limit room es (no number n) ≡ no number n
  unfolding tested_tally tested_one
  tested_no [] number n = refl
  tested_no (e ∷ es) number n = tested_no es number n

  same_no : (es : List Event) (number n : ℕ) → Same es (no number n)
  same_no es number n = tested_no es number n ∙ sym (tally_no limit room es number n)

  same_check : (ok : Bool) (number : ℕ) (es : List Event) (n : ℕ) → (ok ≡ true → Same es (at n)) → Same (check ok number ∷ es) (at n)
  unfolding tested_tally tested_one tally one
  same_check true number es n h = h refl
  same_check false number es n h = same_no es number n

  same_write : room + longest_put ≤ limit → (w : Write) (n : ℕ) → Short w → n ≤ room → tested_write_at limit room w n ≡ write_at limit room w n
  unfolding tested_write_at write_at write_length
  same_write l (put bytes) n h k = rw (within_limit_lem limit n (length bytes) (λ z. omega arith))
  same_write l (pad byte count) n h k = refl

  same_count : room + longest_put ≤ limit → (es : List Event) (n : ℕ) → ReachedShort es → n ≤ room → Same es (at n)
  unfolding tested_tally tested_one tally one ReachedShort
  same_count l [] n h k = refl
  same_count l (write w ∷ es) n h k =
      rw (same_write l w n h.0 k)
      (write_cases limit room (Same es) w n (λ fit. same_count l es (n + write_length w) h.1 fit) (λ short. same_no es 4 room) (λ far. same_no es 3 n))
  same_count l (check ok number ∷ es) n h k = same_check ok number es n (λ e. same_count l es n (h e) k)

-- ## The same outcome

same_events : (format zone : List ℕ) (r : Record) (room : ℕ) → Typed r → length format ≤ longest_format → length zone ≤ longest_zone → room ≤ longest_buffer →
    Same (limit_of (length format)) room (events (events_of r zone) (items format)) (at 0)
same_events [] zone r room typed f z b = unfold read ending events tested_tally tally in refl
same_events (x ∷ format) zone r room typed f z b =
    same_count (limit_of (length (x ∷ format))) room (omega arith) (events (events_of r zone) (items (x ∷ format))) 0
    (puts_short r typed zone z (x ∷ format) f) (omega arith)

-- "Only pads by `SizeLimiter::pad` can give 3: within these lengths no other write can reach the limit."
pub no_put_reaches_limit : (format zone : List ℕ) (r : Record) (room : ℕ) → Typed r → tested_formatted format zone r room ≡ formatted format zone r room
unfolding tested_formatted formatted format_events run
no_put_reaches_limit format zone r room typed =
    ap (λ c. outcome_of c (text_of (format_events format zone r room)))
    (same_check limit room (leb (length format) longest_format) 5 _ 0
    (λ f. same_check limit room (leb (length zone) longest_zone) 5 _ 0
    (λ z. same_check limit room (leb room longest_buffer) 5 _ 0
    (λ b. same_events format zone r room typed (leb-true _ _ f) (leb-true _ _ z) (leb-true _ _ b)))))
  where
    limit : ℕ
    limit = limit_of (length format)
