-- A call that is read, from the promises of the functions that do it: the numbers, the store and the buffer afterwards.
use mathlib.Core.Path.{◌≡◌, refl, sym, ap, ◌∙◌}
use mathlib.Core.Bool.{Bool, false, true}
use mathlib.Core.List.{List, ◌++◌, append_assoc}
use Prim.Native.Nat.{ℕ, ◌+◌, ◌-◌, ◌≤◌}
use native.Mathlib.Omega.{arith}
use lib.ListN.{length, take, drop, length-append, length-drop, take-append-drop}
use lib.Seq.{take_at, drop_at, take-take, take-add, length-take-le}
use Rattle.rules.specs.declared.Record.{Record}
use Rattle.rules.specs.declared.Runs.{Runs}
use Rattle.rules.specs.Event.{Event, text_of, length_of, Count, at, reach_of, number_in, tally}
use Rattle.rules.specs.Writing.{events_of}
use Rattle.rules.specs.Format.{between, after, settled, items, events, limit_of}
use Rattle.rules.specs.Runs.{bring, close, pending_of, found, rest, added, laid, held}
use Rattle.rules.proofs.EventLaws.{length_text}
use Rattle.rules.proofs.ReachLaws.{reach_most, reach_least, reach_room}
use Rattle.rules.proofs.PendingLaws.{pending_ends, pending_fits}
use Rattle.rules.proofs.PendingFront.{settled_front}
use Rattle.text.specs.Overlay.{overlay}
use Rattle.text.specs.Ran.{count_at, Ran}
use Rattle.text.proofs.OverlayLaws.{overlay_fits}
use Rattle.text.proofs.PlaceLaws.{count_at_lem}
use Rattle.text.proofs.RanLaws.{same_events}
use Rattle.runs.specs.Checks.{Good}
use Rattle.runs.specs.Read.{unread, read_in}
use Rattle.runs.proofs.NumberLaws.{EndGood}

-- ## The buffer

module _ {limit room : ℕ} {es : List Event} {l l' : List ℕ} {n p : ℕ} (size : length l ≡ room) (small : room ≤ 65536) (low : n ≤ room) (w : Ran limit room es l n l' p) where
  place_is : count_at p ≡ tally limit room es (at n)
  place_is = w.count ∙ ap (tally limit room es) (count_at_lem n (omega arith))

  laid_by : l' ≡ laid n (reach_of (tally limit room es (at n))) (text_of es) l
  laid_by =
      go (reach_of (tally limit room es (at n))) (reach_least limit room es n low) (reach_room limit room es n low) (reach_most limit room es n)
      (w.text ∙ ap (λ (x : Count). overlay n (take (reach_of x - n) (text_of es)) l) place_is)
    where
      go : (m : ℕ) → n ≤ m → m ≤ room → m ≤ n + length_of es → l' ≡ overlay n (take (m - n) (text_of es)) l → l' ≡ laid n m (text_of es) l
      go m a b d q =
          let t = take (m - n) (text_of es) in
          let k : length t ≡ m - n = length-take-le (m - n) (text_of es) (omega (arith, length_text es)) in
          let f : n + length t ≡ m = omega arith in
          q ∙ overlay_fits n t l (omega arith) ∙ append_assoc (take n l) t (drop (n + length t) l) ∙ ap (λ (j : ℕ). take n l ++ (t ++ drop j l)) f

-- ## The three together

alike : {n n' : Runs} {s s' b b' : List ℕ} → n ≡ n' → s ≡ s' → b ≡ b' → held n s b ≡ held n' s' b'
alike p q r = cc

-- the numbers after a walk that came to a place
abbrev pub came_to : ℕ → ℕ → ℕ → ℕ → Bool → Runs
came_to total passed kept place over =
    record { total = total; passed = passed; kept = kept; written = reach_of (count_at place); number = number_in (count_at place); over = over }

same_numbers : {total passed passed' kept kept' : ℕ} (place : ℕ) {over : Bool} (x : Count) → passed ≡ passed' → kept ≡ kept' → count_at place ≡ x →
    came_to total passed kept place over ≡ record { total = total; passed = passed'; kept = kept'; written = reach_of x; number = number_in x; over = over }
same_numbers place x p q e = rw (p, q, e)

-- ## A run

module _ (s : Runs) (zone : List ℕ) (time : Record) (store buffer bytes : List ℕ) (g : Good s (length bytes) (length zone) (length buffer) (length store)) where
  abbrev text : List ℕ
  text = take s.kept store ++ bytes

  abbrev pending : List ℕ
  pending = pending_of (after between text)

  abbrev end : ℕ
  end = s.kept + length bytes

  kept_long : length (take s.kept store) ≡ s.kept
  kept_long = length-take-le s.kept store (omega (arith, g.holds))

  text_long : length text ≡ end
  text_long = length-append (take s.kept store) bytes ∙ omega (arith, kept_long)

  -- the store with the run's bytes behind those that were kept
  module _ (store₁ : List ℕ) (e₁ : store₁ ≡ take s.kept store ++ (bytes ++ drop end store)) where
    in_long : length store₁ ≡ length store
    in_long =
        ap length e₁ ∙ length-append (take s.kept store) (bytes ++ drop end store)
        ∙ omega (arith, length-append bytes (drop end store), length-drop end store, kept_long, g.holds)

    pub end_within : end ≤ length store₁
    end_within = omega (arith, in_long, g.holds)

    text_is : take end store₁ ≡ text
    text_is =
        ap (take end) (e₁ ∙ sym (append_assoc (take s.kept store) bytes (drop end store)))
        ∙ take_at text (drop end store) end text_long

    module _ (from : ℕ) (f : from ≡ length (take end store₁) - length (pending_of (after between (take end store₁)))) where
      from_is : from ≡ length text - length pending
      from_is = f ∙ ap (λ (t : List ℕ). length t - length (pending_of (after between t))) text_is

      pub from_within : from ≤ end
      from_within = omega (arith, from_is, text_long)

      pub from_inside : from ≤ length store₁
      from_inside = omega (arith, from_within, end_within)

      left_is : length pending ≡ end - from
      left_is = omega (arith, from_is, text_long, pending_fits text)

      -- what is pending stands from there on
      pending_there : take (end - from) (drop from store₁) ≡ pending
      pending_there =
          let p = pending_ends text in
          let k : length p.0 ≡ from = omega (arith, from_is, ap length p.1, length-append p.0 pending) in
          let e : end ≡ from + (end - from) = omega (arith, from_within) in
          sym (ap (λ (j : ℕ). drop from (take j store₁)) e ∙ ap (drop from) (take-add from (end - from) store₁)
          ∙ drop_at (take from store₁) (take (end - from) (drop from store₁)) from (length-take-le from store₁ from_inside))
          ∙ ap (drop from) (text_is ∙ p.1) ∙ drop_at p.0 pending from k

      -- and what is settled stands before it
      settled_there : items (take from store₁) ≡ settled between text
      settled_there =
          ap items (sym (take-take from end store₁ from_within) ∙ ap (take from) text_is)
          ∙ ap (λ (j : ℕ). items (take j text)) from_is ∙ settled_front text

      pub run_read : (store₂ buffer' : List ℕ) (place : ℕ) (r : Runs) → store₂ ≡ take (end - from) (drop from store₁) ++ drop (end - from) store₁ →
          Ran (limit_of s.total) (length buffer) (events (events_of time zone) (items (take from store₁))) buffer s.written buffer' place →
          r ≡ came_to s.total (s.passed + from) (end - from) place false →
          held r store₂ buffer' ≡ read_in zone time (unread s store) (bring bytes) store buffer
      unfolding rest added found reach_of
      run_read store₂ buffer' place r e₂ w q =
          let v = same_events (ap (events (events_of time zone)) settled_there) w in
          let sum : s.passed + from ≡ s.passed + length (take s.kept store) + length bytes - length pending = omega (arith, kept_long, left_is, from_within) in
          alike (q ∙ same_numbers place _ sum (sym left_is) (place_is refl g.small g.place v))
          (e₂ ∙ rw (pending_there, ← left_is, e₁, kept_long))
          (laid_by refl g.small g.place v)

-- ## An end

module _ (s : Runs) (zone : List ℕ) (time : Record) (store buffer : List ℕ) (fits : s.kept ≤ length store) (g : EndGood s (length zone) (length buffer)) where
  pub end_read : (buffer' : List ℕ) (place : ℕ) (r : Runs) →
      Ran (limit_of s.total) (length buffer) (events (events_of time zone) (items (take s.kept store))) buffer s.written buffer' place →
      r ≡ came_to s.total s.total 0 place true →
      held r store buffer' ≡ read_in zone time (unread s store) close store buffer
  unfolding rest added found reach_of
  end_read buffer' place r w q =
      let k : length (take s.kept store) ≡ s.kept = length-take-le s.kept store fits in
      let sum : s.total ≡ s.passed + length (take s.kept store) + 0 - 0 = omega (arith, g.all) in
      let all : length (take s.kept store) + 0 ≡ s.kept = omega arith in
      alike (q ∙ same_numbers place _ sum refl (place_is refl g.small g.place w))
      (sym (rw all (take-append-drop s.kept store)))
      (laid_by refl g.small g.place w)
