-- A format cut into runs: the count, the state and the buffer after each, and after the end.
use mathlib.Core.Path.{◌≡◌, refl, sym, ap, ◌∙◌}
use mathlib.Core.Bool.{Bool, true, false, cond}
use mathlib.Core.List.{List, [], ◌∷◌, ◌++◌, append_assoc, append-nil}
use Prim.Native.Nat.{ℕ, ◌+◌, ◌≤◌}
use native.Mathlib.Omega.{arith}
use borrow.Author.Tests.{le-leb, leb-true, eq-eqb}
use lib.Dec.{leb}
use lib.ListN.{length, length-append}
use Rattle.rules.specs.declared.Piece.{Piece}
use Rattle.rules.specs.Record.{longest_format, longest_zone, longest_buffer}
use Rattle.rules.specs.Event.{Event, check, text_of, length_of, Count, at, no, reach_of, tally, Holds}
use Rattle.rules.specs.Writing.{events_of}
use Rattle.rules.specs.Format.{Item, between, settled, after, items, events, inputs, limit_of}
use Rattle.rules.specs.Runs.{Call, bring, close, longest_run, Lent, Arrived, got, started, checks, pending_of, found, rest, added, called, called_all, laid, written, written_all, runs_of, whole, short}
use Rattle.rules.proofs.EventLaws.{tally_join, tally_no, tally_done, tally_room}
use Rattle.rules.proofs.EarlyLaws.{shown, shown_quiet, shown_stays, shown_on}
use Rattle.rules.proofs.Resume.{events_join}
use Rattle.rules.proofs.PendingLaws.{goes_settled, goes_after, goes_items, pending_fits}
use Rattle.rules.proofs.CallLaws.{refusal_repeats, end_repeats, repeats_write, Read, was_read, repeats_all, calls_join}

-- the state after the first call
abbrev pub begins : Lent → ℕ → Arrived
begins lent total = started total (length lent.zone) lent.room lent.store

-- ## One call

module _ (lent : Lent) (total : ℕ) where
  abbrev events_for : Piece → List Event
  events_for = events_of lent.time lent.zone

  -- the events of the start and of items settled since
  abbrev pub so_far : List Item → List Event
  so_far is = inputs total (length lent.zone) lent.room ++ (check (leb total lent.store) 4 ∷ events events_for is)

  abbrev counts : List Event → Count → Count
  counts es x = tally (limit_of total) lent.room es x

  abbrev shows : List Event → List ℕ → List ℕ
  shows es b = shown (limit_of total) lent.room es b

  so_far_join : (xs ys : List Item) → so_far (xs ++ ys) ≡ so_far xs ++ events events_for ys
  so_far_join xs ys =
      ap (λ (es : List Event). inputs total (length lent.zone) lent.room ++ (check (leb total lent.store) 4 ∷ es)) (events_join events_for xs ys)

  -- the count and the buffer after a start that found the items `is` since
  pub record Stands (is : List Item) (count : Count) (b₀ b : List ℕ) : Type 0 where
    pub counted : count ≡ counts (so_far is) (at 0)
    pub bytes : b ≡ shows (so_far is) b₀

  -- a call that is read
  pub stands_on : (s : Arrived) (c : Call) (n : ℕ) → s.total ≡ total → s.count ≡ at n → Read lent s c n → (xs : List Item) (b₀ b : List ℕ) → Stands xs s.count b₀ b →
      Stands (xs ++ found s c) (called lent s c).count b₀ (written lent s c b)
  unfolding written added reach_of
  stands_on s c n t q r xs b₀ b w =
      record {
        counted = new ∙ sym (ap (λ (es : List Event). counts es (at 0)) (so_far_join xs (found s c)) ∙ tally_join (limit_of total) lent.room (so_far xs) ys (at 0) ∙ ap (counts ys) before);
        bytes =
            ap (λ (x : Count). laid (reach_of s.count) (reach_of x) (text_of ys) b) new
            ∙ ap (λ (x : Count). laid (reach_of x) (reach_of (counts ys (at n))) (text_of ys) b) q
            ∙ ap (laid n (reach_of (counts ys (at n))) (text_of ys)) w.bytes
            ∙ shown_on (limit_of total) lent.room (so_far xs) ys b₀ n before
            ∙ ap (λ (es : List Event). shows es b₀) (sym (so_far_join xs (found s c)));
      }
    where
      ys : List Event
      ys = events events_for (found s c)

      before : counts (so_far xs) (at 0) ≡ at n
      before = sym w.counted ∙ q

      new : (called lent s c).count ≡ counts ys (at n)
      new = ap (λ (x : Arrived). x.count) r.state ∙ ap (λ (k : ℕ). tally (limit_of k) lent.room ys (at n)) t

  -- a call after a refusal: whatever items come
  pub stands_still : (s : Arrived) (c : Call) (xs ys : List Item) (b₀ b : List ℕ) (number m : ℕ) → s.count ≡ no number m → Stands xs s.count b₀ b → Stands (xs ++ ys) (called lent s c).count b₀ (written lent s c b)
  stands_still s c xs ys b₀ b number m q w =
      let same = refusal_repeats lent s c number m q in
      let before : counts (so_far xs) (at 0) ≡ no number m = sym w.counted ∙ q in
      record {
        counted =
            ap (λ (x : Arrived). x.count) same ∙ q
            ∙ sym (ap (λ (es : List Event). counts es (at 0)) (so_far_join xs ys) ∙ tally_join (limit_of total) lent.room (so_far xs) zs (at 0) ∙ ap (counts zs) before ∙ tally_no (limit_of total) lent.room zs number m);
        bytes =
            repeats_write lent s c b same ∙ w.bytes ∙ shown_stays (limit_of total) lent.room (so_far xs) zs b₀ number m before
            ∙ ap (λ (es : List Event). shows es b₀) (sym (so_far_join xs ys));
      }
    where
      zs : List Event
      zs = events events_for ys

  -- ## The runs

  -- the state that the bytes bs lead to where nothing is refused
  pub record Going (bs : List ℕ) (s : Arrived) : Type 0 where
    pub sum : s.total ≡ total
    pub still : s.over ≡ false
    pub pends : s.pending ≡ pending_of (after between bs)
    pub had : got s ≡ length bs
    pub within : length bs ≤ total

  -- the state and the buffer after runs that brought the bytes bs
  pub record Came (bs : List ℕ) (s : Arrived) (b₀ b : List ℕ) : Type 0 where
    pub stands : Stands (settled between bs) s.count b₀ b
    pub goes : (n : ℕ) → s.count ≡ at n → Going bs s

  pub came_start : (b : List ℕ) → Came [] (begins lent total) b b
  unfolding started settled after events length_of
  came_start b =
      record {
        stands = record { counted = refl; bytes = sym (shown_quiet (limit_of total) lent.room (so_far []) b refl) };
        goes = λ n q. record { sum = refl; still = refl; pends = refl; had = omega arith; within = omega arith };
      }

  -- what a count that isn't refused says of the inputs
  record Inputs (n : ℕ) : Type 0 where
    format : leb total longest_format ≡ true
    name : leb (length lent.zone) longest_zone ≡ true
    buffer : leb lent.room longest_buffer ≡ true
    store : leb total lent.store ≡ true
    place : n ≤ lent.room

  inputs_hold : (is : List Item) (n : ℕ) → counts (so_far is) (at 0) ≡ at n → Inputs n
  unfolding Holds
  inputs_hold is n q =
      let h = (tally_done (limit_of total) lent.room (so_far is) 0 n q).0 in
      record { format = h.0; name = h.1.0; buffer = h.1.1.0; store = h.1.1.1.0; place = tally_room (limit_of total) lent.room (so_far is) 0 n (omega arith) q }

  module _ (bs : List ℕ) (s : Arrived) (g : Going bs s) (n : ℕ) (q : s.count ≡ at n) (i : Inputs n) where
    sum_is : leb s.total longest_format ≡ true
    sum_is = ap (λ (k : ℕ). leb k longest_format) g.sum ∙ i.format

    place_is : leb (reach_of s.count) lent.room ≡ true
    unfolding reach_of
    place_is = ap (λ (x : Count). leb (reach_of x) lent.room) q ∙ le-leb n lent.room i.place

    run_read : (bytes : List ℕ) → leb (length bytes) longest_run ≡ true → length bs + length bytes ≤ total → Read lent s (bring bytes) n
    unfolding checks Holds
    run_read bytes h f =
        let most : total ≤ lent.store = leb-true total lent.store i.store in
        let known : got s + length bytes ≤ s.total = omega (arith, g.had, g.sum) in
        let holds : length s.pending + length bytes ≤ lent.store = omega (arith, g.had) in
        was_read lent s (bring bytes) g.still n q
        (sum_is, (i.name, (i.buffer, (h, (le-leb _ _ known, (le-leb _ _ holds, (place_is, tt)))))))

    end_read : length bs ≡ total → Read lent s close n
    unfolding checks Holds
    end_read e =
        let all : got s ≡ s.total = omega (arith, g.had, g.sum) in
        was_read lent s close g.still n q (sum_is, (i.name, (i.buffer, (eq-eqb _ _ all, (place_is, tt)))))

  never_at : {A : Type 0} (s : Arrived) (c : Call) (number m n : ℕ) → s.count ≡ no number m → (called lent s c).count ≡ at n → A
  never_at s c number m n q e =
      let z : no number m ≡ at n = sym (ap (λ (y : Arrived). y.count) (refusal_repeats lent s c number m q) ∙ q) ∙ e in
      let z' : ◌≡◌ {A = ℕ} 0 1 = cc in
      absurd (omega arith)

  pub came_run : (bs bytes : List ℕ) (s : Arrived) (b₀ b : List ℕ) → leb (length bytes) longest_run ≡ true → length bs + length bytes ≤ total → Came bs s b₀ b → Came (bs ++ bytes) (called lent s (bring bytes)) b₀ (written lent s (bring bytes) b)
  unfolding found rest
  came_run bs bytes s b₀ b h f w = go s.count refl
    where
      more : List Item
      more = settled between (pending_of (after between bs) ++ bytes)

      joined : (x : Count) (b' : List ℕ) → Stands (settled between bs ++ more) x b₀ b' → Stands (settled between (bs ++ bytes)) x b₀ b'
      joined x b' v = rw (goes_settled bs bytes) v

      go : (x : Count) → s.count ≡ x → Came (bs ++ bytes) (called lent s (bring bytes)) b₀ (written lent s (bring bytes) b)
      go (no number m) q =
          record {
            stands = joined _ _ (stands_still s (bring bytes) (settled between bs) more b₀ b number m q w.stands);
            goes = λ n e. never_at s (bring bytes) number m n q e;
          }
      go (at n) q =
          let g = w.goes n q in
          let r = run_read bs s g n q (inputs_hold (settled between bs) n (sym w.stands.counted ∙ q)) bytes h f in
          let pend : pending_of (after between (s.pending ++ bytes)) ≡ pending_of (after between (bs ++ bytes)) =
          ap (λ (t : List ℕ). pending_of (after between (t ++ bytes))) g.pends ∙ ap pending_of (sym (goes_after bs bytes)) in
          let fit : length (pending_of (after between (bs ++ bytes))) ≤ length bs + length bytes = omega (arith, pending_fits (bs ++ bytes), length-append bs bytes) in
          let size : length (pending_of (after between (s.pending ++ bytes))) ≡ length (pending_of (after between (bs ++ bytes))) = ap length pend in
          record {
            stands = joined _ _ (ap_found g.pends (stands_on s (bring bytes) n g.sum q r (settled between bs) b₀ b w.stands));
            goes = λ m e. rw r.state (record { sum = g.sum; still = refl; pends = pend; had = omega (arith, g.had, length-append bs bytes); within = omega (arith, length-append bs bytes) });
          }
        where
          ap_found : s.pending ≡ pending_of (after between bs) → {x : Count} {b' : List ℕ} → Stands (settled between bs ++ settled between (s.pending ++ bytes)) x b₀ b' → Stands (settled between bs ++ more) x b₀ b'
          ap_found e v = rw e at v

  both : (x y : Bool) → cond x y false ≡ true → (x ≡ true) × (y ≡ true)
  both true y h = (refl, h)
  both false y h = let z : ◌≡◌ {A = ℕ} 0 1 = cc in absurd (omega arith)

  -- runs within the total are read as their joined bytes
  pub came_runs : (rs : List (List ℕ)) (bs : List ℕ) (s : Arrived) (b₀ b : List ℕ) → short rs ≡ true → length bs + length (whole rs) ≤ total → Came bs s b₀ b →
      Came (bs ++ whole rs) (called_all lent s (runs_of rs)) b₀ (written_all lent s (runs_of rs) b)
  unfolding short whole runs_of called_all written_all
  came_runs [] bs s b₀ b h f w = rw (append-nil bs) w
  came_runs (r ∷ rs) bs s b₀ b h f w =
      let k = both (leb (length r) longest_run) (short rs) h in
      let m : length (bs ++ r) + length (whole rs) ≤ total = omega (arith, length-append bs r, length-append r (whole rs)) in
      rw (← append_assoc bs r (whole rs))
      (came_runs rs (bs ++ r) (called lent s (bring r)) b₀ (written lent s (bring r) b) k.1 m (came_run bs r s b₀ b k.0 (omega (arith, length-append r (whole rs))) w))

  -- ## The end

  pub record Ended (format : List ℕ) (s : Arrived) (b₀ b : List ℕ) : Type 0 where
    pub stands : Stands (items format) s.count b₀ b
    pub ends : (n : ℕ) → s.count ≡ at n → s.over ≡ true

  pub came_end : (bs : List ℕ) (s : Arrived) (b₀ b : List ℕ) → length bs ≡ total → Came bs s b₀ b → Ended bs (called lent s close) b₀ (written lent s close b)
  unfolding found
  came_end bs s b₀ b e w = go s.count refl
    where
      joined : {x : Count} {b' : List ℕ} → Stands (settled between bs ++ items (pending_of (after between bs))) x b₀ b' → Stands (items bs) x b₀ b'
      joined v = rw (goes_items bs) v

      go : (x : Count) → s.count ≡ x → Ended bs (called lent s close) b₀ (written lent s close b)
      go (no number m) q =
          record {
            stands = joined (stands_still s close (settled between bs) (items (pending_of (after between bs))) b₀ b number m q w.stands);
            ends = λ n k. never_at s close number m n q k;
          }
      go (at n) q =
          let g = w.goes n q in
          let r = end_read bs s g n q (inputs_hold (settled between bs) n (sym w.stands.counted ∙ q)) e in
          record {
            stands = joined (ap_found g.pends (stands_on s close n g.sum q r (settled between bs) b₀ b w.stands));
            ends = λ m k. ap (λ (x : Arrived). x.over) r.state;
          }
        where
          ap_found : s.pending ≡ pending_of (after between bs) → {x : Count} {b' : List ℕ} → Stands (settled between bs ++ items s.pending) x b₀ b' → Stands (settled between bs ++ items (pending_of (after between bs))) x b₀ b'
          ap_found k v = rw k at v

  -- "later calls, also after the end, repeat the answer"
  pub ended_repeats : (format : List ℕ) (s : Arrived) (b₀ b : List ℕ) → Ended format s b₀ b → (c : Call) → called lent s c ≡ s
  ended_repeats format s b₀ b w c = go s.count refl
    where
      go : (x : Count) → s.count ≡ x → called lent s c ≡ s
      go (at n) q = end_repeats lent s c (w.ends n q)
      go (no number m) q = refusal_repeats lent s c number m q

  -- a format cut into runs, the end, and whatever is called after it
  pub at_the_end : (rs : List (List ℕ)) → short rs ≡ true → length (whole rs) ≡ total → (later : List Call) (b : List ℕ) →
      Ended (whole rs) (called_all lent (begins lent total) (runs_of rs ++ (close ∷ later))) b (written_all lent (begins lent total) (runs_of rs ++ (close ∷ later)) b)
  unfolding called_all written_all
  at_the_end rs h e later b =
      let w = came_runs rs [] (begins lent total) b b h (omega (arith, e)) (came_start b) in
      let s = called_all lent (begins lent total) (runs_of rs) in
      let t = written_all lent (begins lent total) (runs_of rs) b in
      let d = came_end (whole rs) s b t e w in
      let j = calls_join lent (begins lent total) (runs_of rs) (close ∷ later) b in
      let a = repeats_all lent (called lent s close) later (written lent s close t) (ended_repeats (whole rs) (called lent s close) b (written lent s close t) d) in
      rw (j.0, j.1, a.0, a.1) d
