-- Events that write as they go: the event that refuses, and what the buffer then holds.
use mathlib.Core.Path.{◌≡◌, refl, sym, ap, ◌∙◌}
use mathlib.Core.Bool.{true, false}
use mathlib.Core.List.{List, [], ◌∷◌, ◌++◌, append_assoc, append-nil}
use mathlib.Core.Logic.{◌≢◌}
use Prim.Native.Nat.{ℕ, ◌+◌, ◌-◌, ◌≤◌}
use native.Mathlib.Omega.{arith}
use lib.ListN.{length, take, drop, length-append, length-drop, take-append-drop}
use lib.Seq.{take_at, drop_at, take_all, take-append-le, take-append-add, length-take-le, drop-length, drop-drop}
use Rattle.rules.specs.Event.{Event, write, check, write_length, text_of, length_of, Count, at, no, reach_of, one, tally}
use Rattle.rules.specs.Runs.{laid}
use Rattle.rules.proofs.EventLaws.{write_cases, length_text, text_join, tally_join, tally_no, tally_done, tally_room}
use Rattle.rules.proofs.FormatLaws.{Numbered}
use Rattle.rules.proofs.ReachLaws.{reach_most, reach_least}

-- ## Bytes laid into a buffer

pub laid_same : (n : ℕ) (t b : List ℕ) → laid n n t b ≡ b
laid_same n t b = let e : n - n ≡ 0 = omega arith in rw e (take-append-drop n b)

-- what stands before them and what stands behind stays, and so does the length
module _ (from to : ℕ) (t b : List ℕ) (h : from ≤ to) (g : to ≤ length b) (k : to ≤ from + length t) where
  front : length (take from b) ≡ from
  front = length-take-le from b (omega arith)

  middle : length (take (to - from) t) ≡ to - from
  middle = length-take-le (to - from) t (omega arith)

  pub laid_before : take from (laid from to t b) ≡ take from b
  laid_before = take_at (take from b) (take (to - from) t ++ drop to b) from front

  pub laid_behind : drop to (laid from to t b) ≡ drop to b
  laid_behind =
      rw (← append_assoc)
      (drop_at (take from b ++ take (to - from) t) (drop to b) to (omega (arith, length-append (take from b) (take (to - from) t), front, middle)))

  pub laid_length : length (laid from to t b) ≡ length b
  laid_length =
      length-append (take from b) (take (to - from) t ++ drop to b)
      ∙ omega (arith, length-append (take (to - from) t) (drop to b), length-drop to b, front, middle)

-- ## The event that refuses

pub record Fails (limit room : ℕ) (es : List Event) (n number m : ℕ) : Type 0 where
  pub before : List Event
  pub event : Event
  pub behind : List Event
  pub split : es ≡ before ++ (event ∷ behind)
  pub upto : ℕ
  pub holds : tally limit room before (at n) ≡ at upto
  pub here : one limit room event (at upto) ≡ no number m

abbrev pub NotFour : ℕ → Type 0
NotFour number = number ≢ 4

module _ (limit room : ℕ) where
  later : (e : Event) (es : List Event) (n j number m : ℕ) → one limit room e (at n) ≡ at j → Fails limit room es j number m → Fails limit room (e ∷ es) n number m
  unfolding tally
  later e es n j number m q f =
      record { before = e ∷ f.before; event = f.event; behind = f.behind; split = ap (λ s. e ∷ s) f.split; upto = f.upto; holds = rw q f.holds; here = f.here }

  pub fails : (es : List Event) (n number m : ℕ) → tally limit room es (at n) ≡ no number m → Fails limit room es n number m
  unfolding tally
  fails [] n number m q = let z : ◌≡◌ {A = ℕ} 0 1 = cc in absurd (omega arith)
  fails (e ∷ es) n number m q = go (one limit room e (at n)) refl (λ j. fails es j number m) q
    where
      go : (c : Count) → one limit room e (at n) ≡ c → ((j : ℕ) → tally limit room es (at j) ≡ no number m → Fails limit room es j number m) → tally limit room es c ≡ no number m → Fails limit room (e ∷ es) n number m
      go (at j) o ih t = later e es n j number m o (ih j t)
      go (no k i) o ih t =
          let same : no k i ≡ no number m = sym (tally_no limit room es k i) ∙ t in
          record { before = []; event = e; behind = es; split = refl; upto = n; holds = refl; here = o ∙ same }

  -- a refusal that isn't 4 comes no further than what was written before it
  pub stopped : (e : Event) (j number m : ℕ) → one limit room e (at j) ≡ no number m → number ≢ 4 → m ≡ j
  unfolding one
  stopped (write w) j number m =
      write_cases limit room (λ c. c ≡ no number m → number ≢ 4 → m ≡ j) w j
      (λ fit q h. let z : ◌≡◌ {A = ℕ} 0 1 = cc in absurd (omega arith)) (λ past q h. absurd (h (cc))) (λ far q h. cc)
  stopped (check true k) j number m = λ q h. let z : ◌≡◌ {A = ℕ} 0 1 = cc in absurd (omega arith)
  stopped (check false k) j number m = λ q h. cc

  -- 4 comes to the end of the room, where no check gives it
  pub full : (es : List Event) (n m : ℕ) → Numbered NotFour es → tally limit room es (at n) ≡ no 4 m → m ≡ room
  unfolding tally one Numbered
  full [] n m h q = let z : ◌≡◌ {A = ℕ} 0 1 = cc in absurd (omega arith)
  full (write w ∷ es) n m h r =
      write_cases limit room (λ c. tally limit room es c ≡ no 4 m → m ≡ room) w n
      (λ fit q. full es (n + write_length w) m h q)
      (λ past q. let e : no 4 room ≡ no 4 m = sym (tally_no limit room es 4 room) ∙ q in cc)
      (λ far q. let e : no 3 n ≡ no 4 m = sym (tally_no limit room es 3 n) ∙ q in let z : ◌≡◌ {A = ℕ} 3 4 = cc in absurd (omega arith)) r
  full (check true k ∷ es) n m h q = full es n m h.1 q
  full (check false k ∷ es) n m h q =
      let e : no k n ≡ no 4 m = sym (tally_no limit room es k n) ∙ q in
      absurd (h.0 refl (cc))

  -- ## The buffer

  -- what the events leave in it: their text as far as it came, and what stood behind
  unfoldable pub shown : List Event → List ℕ → List ℕ
  shown es b = take (reach_of (tally limit room es (at 0))) (text_of es) ++ drop (reach_of (tally limit room es (at 0))) b

  -- the text came no further than its length
  within_text : (es : List Event) → reach_of (tally limit room es (at 0)) ≤ length (text_of es)
  within_text es = omega (arith, reach_most limit room es 0, length_text es)

  -- events that write nothing
  pub shown_quiet : (es : List Event) (b : List ℕ) → length_of es ≡ 0 → shown es b ≡ b
  unfolding shown
  shown_quiet es b h = let e : reach_of (tally limit room es (at 0)) ≡ 0 = omega (arith, reach_most limit room es 0) in rw e refl

  -- a refusal's text is settled: nothing that follows changes it
  pub shown_stays : (xs ys : List Event) (b : List ℕ) (number m : ℕ) → tally limit room xs (at 0) ≡ no number m → shown xs b ≡ shown (xs ++ ys) b
  unfolding shown reach_of
  shown_stays xs ys b number m q =
      let h = within_text xs in
      let e : reach_of (tally limit room xs (at 0)) ≡ m = ap reach_of q in
      let f : tally limit room (xs ++ ys) (at 0) ≡ no number m = tally_join limit room xs ys (at 0) ∙ ap (tally limit room ys) q ∙ tally_no limit room ys number m in
      rw (f, q, text_join xs ys, take-append-le m (text_of xs) (text_of ys) (omega arith))

  -- all of a text that came to its end
  pub shown_all : (es : List Event) (b : List ℕ) (n : ℕ) → tally limit room es (at 0) ≡ at n → shown es b ≡ text_of es ++ drop (length (text_of es)) b
  unfolding shown reach_of
  shown_all es b n q =
      let d = tally_done limit room es 0 n q in
      let e : n ≡ length (text_of es) = omega (arith, length_text es, d.1) in
      rw (q, e, take_all (length (text_of es)) (text_of es) (omega arith))

  -- what the events of one more call lay behind
  pub shown_on : (xs ys : List Event) (b : List ℕ) (n : ℕ) → tally limit room xs (at 0) ≡ at n → laid n (reach_of (tally limit room ys (at n))) (text_of ys) (shown xs b) ≡ shown (xs ++ ys) b
  unfolding shown
  shown_on xs ys b n q =
      let d = tally_done limit room xs 0 n q in
      let size : length (text_of xs) ≡ n = omega (arith, length_text xs, d.1) in
      go (reach_of (tally limit room ys (at n))) refl (reach_least limit room ys n (tally_room limit room xs 0 n (omega arith) q)) size
    where
      t : List ℕ
      t = text_of xs

      front_is : shown xs b ≡ t ++ drop (length t) b
      front_is = shown_all xs b n q

      go : (m : ℕ) → m ≡ reach_of (tally limit room ys (at n)) → n ≤ m → length t ≡ n → laid n m (text_of ys) (shown xs b) ≡ shown (xs ++ ys) b
      go m e h size =
          let f : reach_of (tally limit room (xs ++ ys) (at 0)) ≡ m = ap reach_of (tally_join limit room xs ys (at 0) ∙ ap (tally limit room ys) q) ∙ sym e in
          let k : m ≡ length t + (m - n) = omega arith in
          let back : drop m (t ++ drop (length t) b) ≡ drop m b = past m (m - n) k in
          rw (f, text_join xs ys, front_is, take_at t (drop (length t) b) n size, back)
          (sym (ap (λ (x : List ℕ). x ++ drop m b) (ap (λ (i : ℕ). take i (t ++ text_of ys)) k ∙ take-append-add t (text_of ys) (m - n)) ∙ append_assoc t (take (m - n) (text_of ys)) (drop m b)))
        where
          past : (m i : ℕ) → m ≡ length t + i → drop m (t ++ drop (length t) b) ≡ drop m b
          past m i k = rw k (sym (drop-drop i (length t) (t ++ drop (length t) b)) ∙ ap (drop i) (drop_at t (drop (length t) b) (length t) refl) ∙ drop-drop i (length t) b)

  -- "after 4 the buffer holds the longest part of the text, from its start, that fits"
  pub shown_full : (es : List Event) (b : List ℕ) (m : ℕ) → Numbered NotFour es → length b ≡ room → tally limit room es (at 0) ≡ no 4 m → shown es b ≡ take room (text_of es)
  unfolding shown reach_of
  shown_full es b m h k q =
      let e : m ≡ room = full es 0 m h q in
      rw (q, e, ← k, drop-length b) (append-nil (take (length b) (text_of es)))

  -- "after any other refusal, the text before the failing event"
  pub shown_before : (es : List Event) (b : List ℕ) (number m : ℕ) → number ≢ 4 → (f : Fails limit room es 0 number m) → tally limit room es (at 0) ≡ no number m → shown es b ≡ text_of f.before ++ drop (length (text_of f.before)) b
  unfolding shown reach_of
  shown_before es b number m h f q =
      let e : m ≡ f.upto = stopped f.event f.upto number m f.here h in
      let d = tally_done limit room f.before 0 f.upto f.holds in
      let n : length (text_of f.before) ≡ m = omega (arith, length_text f.before, d.1) in
      let s : text_of es ≡ text_of f.before ++ text_of (f.event ∷ f.behind) = ap text_of f.split ∙ text_join f.before (f.event ∷ f.behind) in
      rw (q, s, take_at (text_of f.before) (text_of (f.event ∷ f.behind)) m n, n)
