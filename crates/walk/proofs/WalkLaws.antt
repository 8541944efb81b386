-- The walk over a format: the items found so far, run from the start; one law for each step.
use mathlib.Core.Path.{◌≡◌, refl, sym, ap, ◌∙◌}
use mathlib.Core.Bool.{false}
use mathlib.Core.List.{List, [], ◌∷◌, ◌++◌, append_assoc, append-nil, map}
use Prim.Native.Nat.{ℕ, ◌-◌, ◌≤◌, ◌<◌}
use native.Mathlib.Omega.{arith}
use lib.ListN.{length, take, drop, length-take, length-drop}
use lib.Seq.{drop-length}
use Rattle.rules.specs.declared.Record.{Record}
use Rattle.rules.specs.declared.Piece.{Piece}
use Rattle.rules.specs.Event.{put, Event, write, check, text_of, bytes_of, Count, at, no, one, tally}
use Rattle.rules.specs.Writing.{events_of}
use Rattle.rules.specs.Format.{Item, literal, echo, directive, cut, between, read, ending, item_events, events}
use Rattle.rules.proofs.EventLaws.{join_counts, tally_no}
use Rattle.rules.proofs.Resume.{events_join}
use Rattle.text.specs.Ran.{Ran}
use Rattle.text.proofs.RanLaws.{◌then◌, nothing, same_events, alike}
use Rattle.reading.proofs.Positions.{Part, Last}
use Rattle.walk.specs.declared.Step.{Step}
use Rattle.walk.specs.Steps.{Stepped}

-- ## Literal bytes are one write

module _ (events_for : Piece → List Event) where
  literals_text : (t : List ℕ) → text_of (write (put t) ∷ []) ≡ text_of (events events_for (map literal t))
  unfolding text_of bytes_of events item_events
  literals_text [] = refl
  literals_text (b ∷ t) = ap (λ (x : List ℕ). b ∷ x) (literals_text t)

  literals_count : (limit room b : ℕ) (t : List ℕ) (n : ℕ) → tally limit room (write (put (b ∷ t)) ∷ []) (at n) ≡ tally limit room (events events_for (map literal (b ∷ t))) (at n)
  unfolding events item_events one tally
  literals_count limit room b [] n = refl
  literals_count limit room b (c ∷ t) n =
      sym (join_counts limit room (b ∷ []) (c ∷ t) [] (at n)) ∙ go (λ m. literals_count limit room c t m) (one limit room (write (put (b ∷ []))) (at n))
    where
      go : ((m : ℕ) → tally limit room (write (put (c ∷ t)) ∷ []) (at m) ≡ tally limit room (events events_for (map literal (c ∷ t))) (at m)) →
          (x : Count) → tally limit room (write (put (c ∷ t)) ∷ []) x ≡ tally limit room (events events_for (map literal (c ∷ t))) x
      go rest (at m) = rest m
      go rest (no number m) =
          tally_no limit room (write (put (c ∷ t)) ∷ []) number m ∙ sym (tally_no limit room (events events_for (map literal (c ∷ t))) number m)

  literals_run : {limit room : ℕ} (t : List ℕ) {l l' : List ℕ} {n n' : ℕ} → 0 < length t → Ran limit room (write (put t) ∷ []) l n l' n' → Ran limit room (events events_for (map literal t)) l n l' n'
  literals_run [] h w = absurd (omega arith)
  literals_run {limit} {room} (b ∷ t) {n = n} h w = alike (λ k. literals_count limit room b t n) (literals_text (b ∷ t)) w

pub literals_ran : (r : Record) (zone format : List ℕ) (i e : ℕ) {limit room : ℕ} {l l' : List ℕ} {n n' : ℕ} → i < e → e ≤ length format → Ran limit room (write (put (take (e - i) (drop i format))) ∷ []) l n l' n' → Ran limit room (events (events_of r zone) (map literal (take (e - i) (drop i format)))) l n l' n'
literals_ran r zone format i e h g w = literals_run (events_of r zone) (take (e - i) (drop i format)) (simp (length-take, length-drop) (omega arith)) w

-- an item's events alone
one_item : (events_for : Piece → List Event) (i : Item) → item_events events_for i ≡ events events_for (i ∷ [])
unfolding events
one_item events_for i = sym (append-nil (item_events events_for i))

-- nothing is left at the end
ends : (format : List ℕ) (i : ℕ) → i ≡ length format → read between (drop i format) ≡ []
unfolding read ending
ends format i e = rw (e, drop-length)

-- ## One step

-- the items of a step
pub part_of : {limit room : ℕ} {r : Record} {zone format : List ℕ} {i : ℕ} {l l' : List ℕ} {n : ℕ} {s : Step} (w : Stepped limit room r zone format i l n l' s) → Part format i w.found s.next
part_of w = record { items = w.items; onward = w.onward; within = w.within }

module _ {limit room : ℕ} {r : Record} {zone format : List ℕ} {i : ℕ} {l l' : List ℕ} {n : ℕ} where
  by_item : (s : Step) (x : Item) → Part format i (x ∷ []) s.next → Ran limit room (item_events (events_of r zone) x) l n l' s.at → Stepped limit room r zone format i l n l' s
  by_item s x p w =
      record { found = x ∷ []; items = p.items; onward = p.onward; within = p.within; ran = same_events (one_item (events_of r zone) x) w }

  pub step_directive : (s : Step) (p : Piece) → Part format i (directive p ∷ []) s.next → Ran limit room (events_of r zone p) l n l' s.at → Stepped limit room r zone format i l n l' s
  unfolding item_events
  step_directive s p q w = by_item s (directive p) q w

  pub step_echo : (s : Step) (t : List ℕ) → Part format i (echo t ∷ []) s.next → Ran limit room (write (put t) ∷ []) l n l' s.at → Stepped limit room r zone format i l n l' s
  unfolding item_events
  step_echo s t q w = by_item s (echo t) q w

  pub step_cut : (s : Step) → i < length format → s.next ≡ length format → Last format i (cut ∷ []) → Ran limit room (check false 2 ∷ []) l n l' s.at → Stepped limit room r zone format i l n l' s
  unfolding item_events
  step_cut s h e q w = by_item s cut (record { items = q.items ∙ ap (λ (is : List Item). cut ∷ is) (sym none); onward = omega arith; within = omega arith }) w
    where
      none : read between (drop s.next format) ≡ []
      none = ends format s.next e

-- ## The walk

-- more items are found, and at the end all
module _ (found : List Item) {all : List Item} where
  pub found_on : {is : List Item} {format : List ℕ} {i j : ℕ} → all ≡ found ++ read between (drop i format) → Part format i is j → all ≡ (found ++ is) ++ read between (drop j format)
  found_on {is} {format} {j = j} e p =
      e ∙ ap (λ (x : List Item). found ++ x) p.items ∙ sym (append_assoc found is (read between (drop j format)))

  pub found_all : (format : List ℕ) (i : ℕ) → all ≡ found ++ read between (drop i format) → i ≤ length format → length format ≤ i → found ≡ all
  found_all format i e h g =
      sym (e ∙ ap (λ (x : List Item). found ++ x) (ends format i (omega arith)) ∙ append-nil found)

-- at position i of the format and place n: the items from position `from` up to i have been run from place `start`, over the list l₀
pub record Walked (limit room : ℕ) (r : Record) (zone format : List ℕ) (from start : ℕ) (l₀ : List ℕ) (i : ℕ) (l : List ℕ) (n : ℕ) : Type 0 where
  pub found : List Item
  pub rest : read between (drop from format) ≡ found ++ read between (drop i format)
  pub onward : from ≤ i
  pub within : i ≤ length format
  pub ran : Ran limit room (events (events_of r zone) found) l₀ start l n

module _ {limit room : ℕ} {r : Record} {zone format : List ℕ} {from start : ℕ} where
  pub walk_start : {l : List ℕ} → from ≤ length format → Walked limit room r zone format from start l from l start
  unfolding events
  walk_start h = record { found = []; rest = refl; onward = omega arith; within = h; ran = nothing }

  walk_on : {l₀ l l' : List ℕ} {i n n' j : ℕ} (is : List Item) → Walked limit room r zone format from start l₀ i l n → Part format i is j → Ran limit room (events (events_of r zone) is) l n l' n' → Walked limit room r zone format from start l₀ j l' n'
  walk_on is w p v =
      record {
        found = w.found ++ is;
        rest = found_on w.found w.rest p;
        onward = omega (arith, w.onward, p.onward);
        within = p.within;
        ran = same_events (sym (events_join (events_of r zone) w.found is)) (w.ran then v);
      }

  pub walk_item : {l₀ l l' : List ℕ} {i n : ℕ} (s : Step) → Walked limit room r zone format from start l₀ i l n → Stepped limit room r zone format i l n l' s → Walked limit room r zone format from start l₀ s.next l' s.at
  walk_item s w v = walk_on v.found w (part_of v) v.ran

  pub walk_literals : {l₀ l l' : List ℕ} {i n n' e : ℕ} → Walked limit room r zone format from start l₀ i l n → Part format i (map literal (take (e - i) (drop i format))) e → Ran limit room (write (put (take (e - i) (drop i format))) ∷ []) l n l' n' → Walked limit room r zone format from start l₀ e l' n'
  walk_literals {i = i} {e = e} w p v = walk_on _ w p (literals_ran r zone format i e p.onward p.within v)

  pub walk_end : {l₀ l : List ℕ} {i n : ℕ} → length format ≤ i → Walked limit room r zone format from start l₀ i l n → Ran limit room (events (events_of r zone) (read between (drop from format))) l₀ start l n
  walk_end {i = i} h w = same_events (ap (events (events_of r zone)) (found_all w.found format i w.rest w.within h)) w.ran
