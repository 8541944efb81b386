-- Numbers and store hold all of a state: what a call leaves in them is read by the next as it stood.
use mathlib.Core.Path.{◌≡◌, refl, sym, ap, ◌∙◌}
use mathlib.Core.Bool.{Bool, true, false, cond}
use mathlib.Core.List.{List, [], ◌∷◌, ◌++◌}
use Prim.Native.Nat.{ℕ, ◌+◌, ◌≤◌}
use native.Mathlib.Omega.{arith}
use borrow.Author.Tests.{leb-true, leb-false}
use lib.Dec.{eqb, leb}
use lib.ListN.{length, take, drop, length-append, length-take, length-drop}
use lib.Seq.{take_at, take_all}
use Rattle.rules.specs.declared.Record.{Record}
use Rattle.rules.specs.Refusal.{number_of, refusal_at}
use Rattle.rules.specs.Event.{check, Count, at, no, reach_of, number_in, Holds}
use Rattle.rules.specs.Format.{inputs, limit_of}
use Rattle.rules.specs.Runs.{Call, bring, close, Lent, Arrived, limit_for, started, checks, brought, found, rest, added, called, called_all, written_all, store_by, store_after, Held, count_by, arrived_of, lent_of, begun, held_after, held_all}
use Rattle.rules.proofs.FormatLaws.{Numbered, CountOk, numbered_items, tally_ok}
use Rattle.rules.proofs.OneAnswer.{OfTable, number_known, event_number}
use Rattle.rules.proofs.PendingLaws.{pending_fits}
use Rattle.rules.proofs.CallLaws.{five, four, Went, repeated, refused, through, went, adds}

-- ## The count

pub count_known : (c : Count) → CountOk OfTable c → count_by (number_in c) (reach_of c) ≡ c
unfolding reach_of number_in
count_known (at n) h = refl
count_known (no number n) h = let k = number_known h in rw (k.0, k.1)

pub numbers_known : (number n : ℕ) → CountOk OfTable (count_by number n)
numbers_known number n = go (eqb number 0)
  where
    go : (t : Bool) → CountOk OfTable (cond t (at n) (no (number_of (refusal_at number)) n))
    go true = tt
    go false = (refusal_at number, refl)

pub reach_by : (number n : ℕ) → reach_of (count_by number n) ≡ n
unfolding reach_of
reach_by number n = go (eqb number 0)
  where
    go : (t : Bool) → reach_of (cond t (at n) (no (number_of (refusal_at number)) n)) ≡ n
    go true = refl
    go false = refl

call_known : (lent : Lent) (s : Arrived) (c : Call) → CountOk OfTable s.count → CountOk OfTable (called lent s c).count
unfolding added
call_known lent s c h = by (went lent s c)
  where
    by : Went lent s c → CountOk OfTable (called lent s c).count
    by (repeated e k) = rw e h
    by (refused number n t q w) = rw w.state t
    by (through n q w) =
        rw w.state
        (tally_ok OfTable (λ number g. event_number g) (limit_for s) lent.room (added lent s c) (at n)
        (numbered_items OfTable (λ number g k. event_number g) lent.time lent.zone (found s c)) tt)

-- ## The store

pub take_front : (k : ℕ) (l : List ℕ) → take (length (take k l)) l ≡ take k l
take_front k l = go (leb k (length l)) refl
  where
    go : (t : Bool) → leb k (length l) ≡ t → take (length (take k l)) l ≡ take k l
    go true e = let h = leb-true k (length l) e in let m : length (take k l) ≡ k = omega (arith, length-take k l) in ap (λ (j : ℕ). take j l) m
    go false e =
        let h = leb-false k (length l) e in
        let m : length (take k l) ≡ length l = omega (arith, length-take k l) in
        take_all (length (take k l)) l (omega arith) ∙ sym (take_all k l (omega arith))

-- what is pending stands in front, and the store is as long as it was
record Stored (lent : Lent) (s : Arrived) (c : Call) (store : List ℕ) : Type 0 where
  pending : take (length (called lent s c).pending) (store_after lent s c store) ≡ (called lent s c).pending
  long : length (store_after lent s c store) ≡ length store

module _ (lent : Lent) (s : Arrived) (store : List ℕ) (size : lent.store ≡ length store) (fits : length s.pending ≤ length store) (front : take (length s.pending) store ≡ s.pending) where
  room_for : (c : Call) → Holds (checks lent s c) → (length s.pending + length (brought c) ≤ length store) × (length (rest s c) ≤ length s.pending + length (brought c))
  unfolding Holds checks rest
  room_for (bring bytes) h =
      (omega (arith, leb-true (length s.pending + length bytes) lent.store h.1.1.1.1.1.0), omega (arith, pending_fits (s.pending ++ bytes), length-append s.pending bytes))
  room_for close h = (omega arith, omega arith)

  stored_long : (c : Call) (n : ℕ) → Holds (checks lent s c) → length (store_by s c store (at n)) ≡ length store
  stored_long c n h =
      let k = room_for c h in
      let all = s.pending ++ (brought c ++ drop (length s.pending + length (brought c)) store) in
      let e : length all ≡ length store =
      length-append s.pending (brought c ++ drop (length s.pending + length (brought c)) store)
      ∙ omega (arith, length-append (brought c) (drop (length s.pending + length (brought c)) store), length-drop (length s.pending + length (brought c)) store, k.0) in
      length-append (rest s c) (drop (length (rest s c)) all) ∙ omega (arith, length-drop (length (rest s c)) all, k.1)

  stored : (c : Call) → Stored lent s c store
  stored c = by (went lent s c)
    where
      by : Went lent s c → Stored lent s c store
      by (repeated e k) = record { pending = rw (e, k store) front; long = ap length (k store) }
      by (refused number n t q w) = record { pending = rw (w.state, w.store store) front; long = ap length (w.store store) }
      by (through n q w) =
          record {
            pending = rw (w.state, w.store store) (take_at (rest s c) _ (length (rest s c)) refl);
            long = ap length (w.store store) ∙ stored_long c n w.holds;
          }

-- ## What a caller holds

module _ (zone : List ℕ) (time : Record) where
  -- the next call reads what the last one gave
  pub record Next (h : Held) (c : Call) : Type 0 where
    pub state : arrived_of (held_after zone time h c).numbers (held_after zone time h c).store ≡ called (lent_of zone time h) (arrived_of h.numbers h.store) c
    pub lent : lent_of zone time (held_after zone time h c) ≡ lent_of zone time h

  pub next : (h : Held) (c : Call) → Next h c
  unfolding held_after
  next h c =
      let l = lent_of zone time h in
      let s = arrived_of h.numbers h.store in
      let w = stored l s h.store refl (omega (arith, length-take h.numbers.kept h.store)) (take_front h.numbers.kept h.store) c in
      let k = count_known (called l s c).count (call_known l s c (numbers_known h.numbers.number h.numbers.written)) in
      let b = adds l s c h.buffer refl in
      record {
        state = rw (w.pending, k);
        lent = cc (w.long, b.long);
      }

  -- and so on
  pub record NextAll (h : Held) (cs : List Call) : Type 0 where
    pub state : arrived_of (held_all zone time h cs).numbers (held_all zone time h cs).store ≡ called_all (lent_of zone time h) (arrived_of h.numbers h.store) cs
    pub lent : lent_of zone time (held_all zone time h cs) ≡ lent_of zone time h
    pub buffer : (held_all zone time h cs).buffer ≡ written_all (lent_of zone time h) (arrived_of h.numbers h.store) cs h.buffer

  pub next_all : (h : Held) (cs : List Call) → NextAll h cs
  unfolding held_all called_all written_all held_after
  next_all h [] = record { state = refl; lent = refl; buffer = refl }
  next_all h (c ∷ cs) =
      let n = next h c in
      let w = next_all (held_after zone time h c) cs in
      record {
        state = w.state ∙ rw (n.lent, n.state);
        lent = w.lent ∙ n.lent;
        buffer = w.buffer ∙ rw (n.lent, n.state);
      }

  -- what the first call gives
  pub begun_state : (total : ℕ) (store buffer : List ℕ) → arrived_of (begun total zone store buffer).numbers store ≡ started total (length zone) (length buffer) (length store)
  unfolding started Numbered
  begun_state total store buffer =
      ap (λ (x : Count). record { total = total; passed = 0; pending = []; over = false; count = x })
      (count_known _ (tally_ok OfTable (λ number g. event_number g) (limit_of total) (length buffer) (inputs total (length zone) (length buffer) ++ (check (leb total (length store)) 4 ∷ [])) (at 0)
      (λ e. five, (λ e. five, (λ e. five, (λ e. four, tt)))) tt))
