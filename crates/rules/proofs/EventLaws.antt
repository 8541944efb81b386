-- The laws of events: lists of them joined, a refusal that stays, two puts in one, a list that fits, a list that came to its end.
use mathlib.Core.Path.{◌≡◌, refl, sym, ap, ◌∙◌}
use mathlib.Core.Bool.{Bool, true, false, not, cond}
use mathlib.Core.List.{List, [], ◌∷◌, ◌++◌, append_assoc, map}
use Prim.Native.Nat.{ℕ, zero, suc, ◌+◌, ◌≤◌, ◌<◌}
use native.Mathlib.Omega.{arith}
use borrow.Author.Tests.{ne_eqb, le-leb, lt-leb}
use lib.Dec.{T, leb, leb→le, nleb→lt}
use lib.ListN.{length, length-append, length-replicate}
use Rattle.rules.specs.Event.{Write, put, pad, Event, write, check, bytes_of, write_length, text_of, length_of, Count, at, no, room_for, within_limit, write_at, one, tally, done, outcome_of, run, Holds}

-- by the two outcomes of a test
pub split_on : {A : Type 0} (P : A → Type 0) (b : Bool) {x y : A} → (T b → P x) → (T (not b) → P y) → P (cond b x y)
split_on P true f g = f tt
split_on P false f g = g tt

-- ## The room and the size limit

pub room_short : (room m : ℕ) → room < m → room_for room m ≡ no 4 room
unfolding room_for
room_short room m h = rw (lt-leb m room h)

pub within_limit_lem : (limit n count : ℕ) → (0 < count → n + count ≤ limit) → within_limit limit n count ≡ true
within_limit_lem limit n zero h = refl
within_limit_lem limit n (suc k) h = rw (ne_eqb (suc k) 0 (λ e. omega arith)) (le-leb (n + suc k) limit (h (omega arith)))

pub over_limit : (limit n count : ℕ) → 0 < count → limit < n + count → within_limit limit n count ≡ false
over_limit limit n zero h g = absurd (omega arith)
over_limit limit n (suc k) h g = rw (ne_eqb (suc k) 0 (λ e. omega arith)) (lt-leb (n + suc k) limit g)

limit_passed : (limit n count : ℕ) → T (not (within_limit limit n count)) → limit < n + count
limit_passed limit n zero t = absurd t
limit_passed limit n (suc k) t = let e = ne_eqb (suc k) 0 (λ e. omega arith) in nleb→lt _ _ (rw e at t)

-- ## Length

pub length_bytes : (w : Write) → length (bytes_of w) ≡ write_length w
unfolding bytes_of write_length
length_bytes (put bytes) = refl
length_bytes (pad byte count) = length-replicate count byte

pub length_text : (es : List Event) → length (text_of es) ≡ length_of es
unfolding text_of length_of
length_text [] = refl
length_text (write w ∷ es) = rw (length-append, length_bytes, length_text es)
length_text (check ok number ∷ es) = length_text es

pub length_join : (xs ys : List Event) → length_of (xs ++ ys) ≡ length_of xs + length_of ys
unfolding length_of
length_join [] ys = omega arith
length_join (write w ∷ xs) ys = omega (arith, length_join xs ys)
length_join (check ok number ∷ xs) ys = length_join xs ys

-- ## Lists joined

pub text_join : (xs ys : List Event) → text_of (xs ++ ys) ≡ text_of xs ++ text_of ys
unfolding text_of
text_join [] ys = refl
text_join (write w ∷ xs) ys = rw (text_join xs ys, append_assoc)
text_join (check ok number ∷ xs) ys = text_join xs ys

pub holds_join : (xs ys : List Event) → Holds xs → Holds ys → Holds (xs ++ ys)
unfolding Holds
holds_join [] ys h k = k
holds_join (write w ∷ xs) ys h k = holds_join xs ys h k
holds_join (check ok number ∷ xs) ys h k = (h.0, holds_join xs ys h.1 k)

pub holds_split : (xs ys : List Event) → Holds (xs ++ ys) → Holds xs × Holds ys
unfolding Holds
holds_split [] ys h = (tt, h)
holds_split (write w ∷ xs) ys h = holds_split xs ys h
holds_split (check ok number ∷ xs) ys h = let k = holds_split xs ys h.1 in ((h.0, k.0), k.1)

pub holds_writes : (ws : List Write) → Holds (map write ws)
unfolding Holds
holds_writes [] = tt
holds_writes (w ∷ ws) = holds_writes ws

module _ (limit room : ℕ) where
  pub tally_join : (xs ys : List Event) (c : Count) → tally limit room (xs ++ ys) c ≡ tally limit room ys (tally limit room xs c)
  unfolding tally
  tally_join [] ys c = refl
  tally_join (e ∷ xs) ys c = tally_join xs ys (one limit room e c)

  -- ## Checks

  -- a refusal stays
  pub tally_no : (es : List Event) (number n : ℕ) → tally limit room es (no number n) ≡ no number n
  unfolding tally one
  tally_no [] number n = refl
  tally_no (e ∷ es) number n = tally_no es number n

  pub stop_first : (es : List Event) (number n : ℕ) → tally limit room (check false number ∷ es) (at n) ≡ no number n
  unfolding tally one
  stop_first es number n = tally_no es number n

  pub pass_first : (es : List Event) (number n : ℕ) → tally limit room (check true number ∷ es) (at n) ≡ tally limit room es (at n)
  unfolding tally one
  pass_first es number n = refl

  -- ## A write that fits, and one that fails

  -- whatever follows from a write that passes and from each of its two refusals follows from the write
  pub write_cases : (P : Count → Type 0) (w : Write) (n : ℕ) → (n + write_length w ≤ room → P (at (n + write_length w))) → (room < n + write_length w → P (no 4 room)) → (limit < n + write_length w → P (no 3 n)) → P (write_at limit room w n)
  unfolding write_at room_for write_length
  write_cases P (put bytes) n f g h = split_on P (leb (n + length bytes) room) (λ t. f (leb→le _ _ t)) (λ t. g (nleb→lt _ _ t))
  write_cases P (pad byte count) n f g h =
      split_on P (within_limit limit n count) (λ t. split_on P (leb (n + count) room) (λ t'. f (leb→le _ _ t')) (λ t'. g (nleb→lt _ _ t'))) (λ t. h (limit_passed limit n count t))

  pub write_fits : (w : Write) (n : ℕ) → n + write_length w ≤ room → n + write_length w ≤ limit → write_at limit room w n ≡ at (n + write_length w)
  write_fits w n r l =
      write_cases (λ c. c ≡ at (n + write_length w)) w n (λ fit. refl) (λ short. absurd (omega arith)) (λ far. absurd (omega arith))

  -- ## Two puts are one

  -- what has no room for its first part has none whole
  put_after : (t : List ℕ) (m : ℕ) → one limit room (write (put t)) (room_for room m) ≡ room_for room (m + length t)
  unfolding one write_at room_for
  put_after t m =
      split_on (λ c. one limit room (write (put t)) c ≡ room_for room (m + length t)) (leb m room)
      (λ h. refl) (λ h. sym (room_short room (m + length t) (omega (arith, nleb→lt))))

  pub join_counts : (a b : List ℕ) (es : List Event) (c : Count) → tally limit room (write (put a) ∷ write (put b) ∷ es) c ≡ tally limit room (write (put (a ++ b)) ∷ es) c
  unfolding tally one write_at
  join_counts a b es (at n) = ap (tally limit room es) (put_after b (n + length a) ∙ ap (room_for room) (rw length-append (omega arith)))
  join_counts a b es (no number n) = refl

  -- ## A list that fits, and a list that came to its end

  pub tally_fits : (es : List Event) (n : ℕ) → Holds es → n + length_of es ≤ room → n + length_of es ≤ limit → tally limit room es (at n) ≡ at (n + length_of es)
  unfolding tally one length_of Holds
  tally_fits [] n h r l = ap at (omega arith)
  tally_fits (write w ∷ es) n h r l =
      rw (write_fits w n (omega arith) (omega arith)) (tally_fits es (n + write_length w) h (omega arith) (omega arith) ∙ ap at (omega arith))
  tally_fits (check true number ∷ es) n h r l = tally_fits es n h.1 r l
  tally_fits (check false number ∷ es) n h r l = let z : ◌≡◌ {A = ℕ} 0 1 = cc h.0 in absurd (omega arith)

  refused_at : (es : List Event) (number n m : ℕ) → tally limit room es (no number n) ≡ at m → ⊥
  refused_at es number n m e = let z : ◌≡◌ {A = ℕ} 0 1 = cc (tally_no es number n) in omega arith

  pub tally_done : (es : List Event) (n m : ℕ) → tally limit room es (at n) ≡ at m → Holds es × (m ≡ n + length_of es)
  unfolding tally one length_of Holds
  tally_done [] n m e = (tt, let q : n ≡ m = cc in omega arith)
  tally_done (write w ∷ es) n m e =
      write_cases (λ c. tally limit room es c ≡ at m → Holds es × (m ≡ n + (write_length w + length_of es))) w n
      (λ fit q. let ih = tally_done es (n + write_length w) m q in (ih.0, omega arith))
      (λ short q. absurd (refused_at es 4 room m q)) (λ far q. absurd (refused_at es 3 n m q)) e
  tally_done (check true number ∷ es) n m e = let ih = tally_done es n m e in ((refl, ih.0), ih.1)
  tally_done (check false number ∷ es) n m e = absurd (refused_at es number n m e)

  -- what was written lies in the room
  pub tally_room : (es : List Event) (n m : ℕ) → n ≤ room → tally limit room es (at n) ≡ at m → m ≤ room
  unfolding tally one
  tally_room [] n m h e = let q : n ≡ m = cc in omega arith
  tally_room (write w ∷ es) n m h e =
      write_cases (λ c. tally limit room es c ≡ at m → m ≤ room) w n
      (λ fit q. tally_room es (n + write_length w) m fit q)
      (λ short q. absurd (refused_at es 4 room m q)) (λ far q. absurd (refused_at es 3 n m q)) e
  tally_room (check true number ∷ es) n m h e = tally_room es n m h e
  tally_room (check false number ∷ es) n m h e = absurd (refused_at es number n m e)

  -- an outcome that is a text
  pub run_done : (es : List Event) (text : List ℕ) → run limit room es ≡ done text → Holds es × (length_of es ≤ room) × (text ≡ text_of es)
  unfolding run
  run_done es text e = go (tally limit room es (at 0)) refl e
    where
      go : (c : Count) → tally limit room es (at 0) ≡ c → outcome_of c (text_of es) ≡ done text → Holds es × (length_of es ≤ room) × (text ≡ text_of es)
      go (at n) p q = let d = tally_done es 0 n p in (d.0, omega (arith, tally_room es 0 n (omega arith) p), cc)
      go (no number n) p q = let z : ◌≡◌ {A = ℕ} 0 1 = cc in absurd (omega arith)
