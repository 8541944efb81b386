-- A stamp by way of a scratch: what stands in the scratch grows item by item; at the end, or where an item doesn't end within it, the buffer gets the text.
use mathlib.Core.Path.{◌≡◌, refl, sym, ap, ◌∙◌}
use mathlib.Core.List.{List, [], ◌++◌}
use Prim.Native.Nat.{ℕ, ◌+◌, ◌-◌, ◌≤◌, ◌<◌}
use native.Mathlib.Omega.{arith}
use lib.ListN.{length, take, drop, length-take, length-drop}
use Rattle.rules.specs.declared.Record.{Record}
use Rattle.rules.specs.Event.{Event}
use Rattle.rules.specs.Writing.{events_of}
use Rattle.rules.specs.Format.{Item, between, read, items, events, limit_of}
use Rattle.rules.proofs.Resume.{events_join}
use Rattle.text.specs.Ran.{Ran}
use Rattle.text.specs.Room.{Room}
use Rattle.text.proofs.RanLaws.{same_events, kept, placed}
use Rattle.reading.proofs.Positions.{Part}
use Rattle.walk.specs.declared.Step.{Step}
use Rattle.walk.specs.Steps.{Stepped}
use Rattle.walk.specs.Stamp.{Copied, Begun, Lengths, Stamped}
use Rattle.walk.proofs.FrontLaws.{stamped, stamped_from, front_none, same_front, front_in, front_on, front_still, front_refused, front_written}
use Rattle.walk.proofs.LiteralLaws.{copied_kept}
use Rattle.walk.proofs.WalkLaws.{literals_ran, part_of, found_on, found_all}

-- the events of a format, and those from position i on
abbrev events_in : Record → List ℕ → List ℕ → List Event
events_in r zone format = events (events_of r zone) (items format)

abbrev events_from : Record → List ℕ → List ℕ → ℕ → List Event
events_from r zone format i = events (events_of r zone) (read between (drop i format))

-- ## What stands in the scratch

module _ {limit room : ℕ} {r : Record} {zone format : List ℕ} where
  begun_none : {l : List ℕ} → Begun limit room r zone format 0 l 0
  unfolding events
  begun_none = record { found = []; rest = refl; within = omega arith; front = front_none }

  module _ {i n : ℕ} {l : List ℕ} (w : Begun limit room r zone format i l n) where
    begun_on : (is : List Item) {l' : List ℕ} {n' j : ℕ} → Part format i is j → Ran limit room (events (events_of r zone) is) l n l' n' → n' ≤ length l → length l ≤ 65536 → Begun limit room r zone format j l' n'
    begun_on is p v h g =
        record {
          found = w.found ++ is;
          rest = found_on w.found w.rest p;
          within = p.within;
          front = same_front (sym (events_join (events_of r zone) w.found is)) (front_on w.front v h g);
        }

    begun_item : {l' : List ℕ} (s : Step) → Stepped limit room r zone format i l n l' s → s.at ≤ length l → length l ≤ 65536 → Begun limit room r zone format s.next l' s.at
    begun_item s v h g = begun_on v.found (part_of v) v.ran h g

    begun_literals : {l' : List ℕ} {e : ℕ} → Copied format i l n l' e → (e ≡ i → ⊥) → Room l room → Begun limit room r zone format e l' (n + (e - i))
    begun_literals {e = e} v f g =
        let more : i < e = omega (arith, v.onward) in
        let long : length (take (e - i) (drop i format)) ≡ e - i = simp (length-take, length-drop) (omega (arith, v.within)) in
        let ran = placed v.text (ap (λ (k : ℕ). n + k) (sym long)) v.inside g in
        begun_on _ (record { items = v.literals; onward = more; within = v.within }) (literals_ran r zone format i e more v.within ran) v.inside (omega (arith, g.within, g.small))

    begun_still : {l' : List ℕ} → take n l' ≡ take n l → length l' ≡ length l → Begun limit room r zone format i l' n
    begun_still e k = record { found = w.found; rest = w.rest; within = w.within; front = front_still w.front e k }

    -- nothing is left: the front is the text
    begun_end : (b : List ℕ) {b' : List ℕ} → length format ≤ i → n ≤ 65536 → n ≤ length b → b' ≡ take n l ++ drop n b → Ran limit room (events_in r zone format) b 0 b' n
    begun_end b h g k q = same_events (ap (events (events_of r zone)) (found_all w.found format i w.rest w.within h)) (front_in w.front b g k q)

    found_and_left : events (events_of r zone) w.found ++ events_from r zone format i ≡ events_in r zone format
    found_and_left = sym (ap (events (events_of r zone)) w.rest ∙ events_join (events_of r zone) w.found (read between (drop i format)))

-- ## The rest

module _ {limit : ℕ} {r : Record} {zone format : List ℕ} {i n m : ℕ} {l b x : List ℕ} (s : Lengths format l b) (w : Begun limit (length b) r zone format i l n) (v : Ran limit (length b) (events_from r zone format i) [] n x m) where
  lent : Room l (length b)
  lent = record { within = s.scratch_fits; small = s.buffer_fits }

  pub rest_refused : 65536 < m → Stamped limit (events_in r zone format) l b (x ++ l) b m
  rest_refused h = rw (found_and_left w) at (front_refused {b = b} lent w.front v h)

  pub rest_written : {b₁ b' : List ℕ} {m' : ℕ} → m ≤ 65536 → b₁ ≡ take n (x ++ l) ++ drop n b → Ran limit (length b) (events_from r zone format i) b₁ n b' m' → Stamped limit (events_in r zone format) l b (x ++ l) b' m'
  rest_written h q u = rw (found_and_left w) at (front_written {b = b} lent w.front v h q u)

-- ## The loop

-- the scratch is l₀ and the buffer b₀ where it begins: what stands in the scratch, whose length stays, and the buffer as it was
pub record Stamping (limit : ℕ) (r : Record) (zone format l₀ b₀ : List ℕ) (i : ℕ) (l b : List ℕ) (n : ℕ) : Type 0 where
  pub begun : Begun limit (length b₀) r zone format i l n
  pub scratch : length l ≡ length l₀
  pub buffer : b ≡ b₀

pub stamping_start : {limit : ℕ} {r : Record} {zone format l b : List ℕ} → Stamping limit r zone format l b 0 l b 0
stamping_start = record { begun = begun_none; scratch = refl; buffer = refl }

module _ {limit : ℕ} {r : Record} {zone format l₀ b₀ : List ℕ} {i n : ℕ} {l b : List ℕ} (s : Lengths format l₀ b₀) (w : Stamping limit r zone format l₀ b₀ i l b n) where
  pub stamping_room : Room l (length b₀)
  stamping_room = record { within = omega (arith, w.scratch, s.scratch_fits); small = s.buffer_fits }

  pub stamping_item : {l' : List ℕ} (x : Step) → Stepped limit (length b₀) r zone format i l n l' x → x.at ≤ length l' → Stamping limit r zone format l₀ b₀ x.next l' b x.at
  stamping_item x v h =
      let long = kept v.ran in
      record {
        begun = begun_item w.begun x v (omega arith) (omega (arith, stamping_room.within, s.buffer_fits));
        scratch = long ∙ w.scratch;
        buffer = w.buffer;
      }

  pub stamping_literals : {l' : List ℕ} {e : ℕ} → Copied format i l n l' e → (e ≡ i → ⊥) → Stamping limit r zone format l₀ b₀ e l' b (n + (e - i))
  stamping_literals v f =
      record { begun = begun_literals w.begun v f stamping_room; scratch = copied_kept v ∙ w.scratch; buffer = w.buffer }

  -- what `rest` asks, where an item has changed the scratch behind the place only
  pub handed_over : {l' : List ℕ} → take n l' ≡ take n l → length l' ≡ length l → limit ≡ limit_of (length format) → Lengths format l' b × Begun (limit_of (length format)) (length b) r zone format i l' n
  handed_over e k q = (
    record {
      format_fits = s.format_fits;
      scratch_fits = omega (arith, w.scratch, s.scratch_fits, ap length w.buffer);
      buffer_fits = omega (arith, s.buffer_fits, ap length w.buffer);
    },
    rw (w.buffer, ← q) (begun_still w.begun e k),
  )

  -- what it answers is the answer from the start
  pub handed_back : {es : List Event} {l' l'' b' : List ℕ} {m limit' : ℕ} → length l' ≡ length l → Stamped limit' es l' b l'' b' m → Stamped limit' es l₀ b₀ l'' b' m
  handed_back k v = stamped_from (k ∙ w.scratch) w.buffer v

  -- all items ended within the scratch: its front is copied
  pub stamping_copies : (n ≤ length b) × (n ≤ length l)
  stamping_copies = (omega (arith, w.begun.front.inside, stamping_room.within, ap length w.buffer), w.begun.front.inside)

  pub stamping_end : {b' : List ℕ} → length format ≤ i → limit ≡ limit_of (length format) → b' ≡ take n l ++ drop n b → Stamped (limit_of (length format)) (events_in r zone format) l₀ b₀ l b' n
  stamping_end h q e =
      let inside_buffer : n ≤ length b₀ = omega (arith, w.begun.front.inside, stamping_room.within) in
      let small_place : n ≤ 65536 = omega (arith, s.buffer_fits) in
      rw (← q) (stamped (begun_end w.begun b₀ h small_place inside_buffer (e ∙ ap (λ (x : List ℕ). take n l ++ drop n x) w.buffer)) small_place w.scratch)
