-- A stored form by way of a scratch: what stands in the scratch grows step by step; at the end, or where a step doesn't end within it, the buffer gets
-- the text. A step that isn't taken is 11, whatever came before it.
use mathlib.Core.Path.{◌≡◌, refl, sym, ap, ◌∙◌}
use mathlib.Core.Bool.{Bool, true, false, ◌&&◌}
use mathlib.Core.List.{List, [], ◌∷◌, ◌++◌, append_assoc, append-nil}
use Prim.Native.Nat.{ℕ, ◌+◌, ◌-◌, ◌*◌, ◌≤◌, ◌<◌}
use native.Mathlib.Decide.{dec_lt}
use native.Mathlib.Omega.{arith}
use borrow.Author.Tests.{le-leb}
use lib.ListN.{length, take, drop}
use Rattle.rules.specs.declared.Piece.{Piece}
use Rattle.rules.specs.declared.Record.{Record}
use Rattle.rules.specs.declared.Refusal.TheVariants.{BadStored}
use Rattle.rules.specs.Refusal.{number_of}
use Rattle.rules.specs.Event.{put, Event, write, check, judged, bytes_of, text_of, at, no as refusal, one, write_at, room_for, tally, run}
use Rattle.rules.specs.Writing.{events_of}
use Rattle.rules.specs.Stored.{text, piece, part_events, steps_of, entries_of, steps_taken, sections, loaded}
use Rattle.rules.proofs.EventLaws.{tally_join, text_join, pass_first, stop_first}
use Rattle.text.specs.Ran.{count_at, Ran}
use Rattle.text.specs.Room.{Room}
use Rattle.text.proofs.PlaceLaws.{count_at_lem}
use Rattle.text.proofs.RanLaws.{kept}
use Rattle.sections.specs.Counted.{Agreed}
use Rattle.sections.proofs.CountLaws.{then_well, literals_here, steps_here}
use Rattle.walk.specs.Stamp.{Front, Stamped}
use Rattle.walk.proofs.FrontLaws.{stamped, stamped_not, stamped_from, front_none, same_front, front_in, front_on, front_still, front_refused, front_written}
use Rattle.stored.specs.Steps.{steps_left, parts_from, taken_from, Step, Begun, Sound, all_events}
use Rattle.stored.specs.Texts.{Copied}
use Rattle.stored.proofs.StepLaws.{events_on, none_left}

-- ## A check in front

module _ {limit : ℕ} {es : List Event} {ok : Bool} {number : ℕ} {l b l' b' : List ℕ} {n : ℕ} where
  pub passes_first : ok ≡ true → Stamped limit es l b l' b' n → Stamped limit (check ok number ∷ es) l b l' b' n
  unfolding run text_of
  passes_first e w =
      rw e
      (record {
        count = w.count ∙ sym (pass_first limit (length b) es number 0);
        buffer = w.buffer ∙ sym (rw pass_first refl);
        scratch = w.scratch;
      })

-- the place of a check that fails before any text
pub judged_first : {n : ℕ} → ((limit room : ℕ) (l : List ℕ) → Ran limit room (judged (number_of BadStored) ∷ []) l 0 l n) → count_at n ≡ refusal 11 0
unfolding number_of
judged_first w = (w 0 0 []).count ∙ ap (tally 0 0 (judged 11 ∷ [])) (count_at_lem 0 (omega arith)) ∙ stop_first 0 0 [] 11 0

far : {n number reach : ℕ} → count_at n ≡ refusal number reach → 65536 < n
far {n} e =
    elim (dec_lt 65536 n) [
      | yes h ↦ h
      | no h ↦ absurd (never (sym (count_at_lem n (omega arith)) ∙ e))
    ]
  where
    never : {number reach : ℕ} → at n ≡ refusal number reach → ⊥
    never e = let z : ◌≡◌ {A = ℕ} 0 1 = cc in omega arith

module _ {limit : ℕ} {es : List Event} {ok : Bool} {l b l' : List ℕ} {n : ℕ} where
  pub fails_first : ok ≡ false → count_at n ≡ refusal 11 0 → length l' ≡ length l → Stamped limit (check ok 11 ∷ es) l b l' b n
  fails_first e c k = stamped_not (c ∙ sym (rw e (stop_first limit (length b) es 11 0))) (far c) k

-- ## A text with bytes behind it that don't matter

front_put : {limit room : ℕ} {es : List Event} {l l' t : List ℕ} {n : ℕ} {ended : Bool} → Front limit room es l n → Copied t l n l' ended → ended ≡ true → Room l room → Front limit room (es ++ (write (put t) ∷ [])) l' (n + length t)
unfolding tally one write_at room_for text_of bytes_of
front_put {limit} {room} {es} {t = t} {n = n} w v e g =
    let fits : n + length t ≤ room = omega (arith, v.inside e, g.within) in
    let q = le-leb (n + length t) room fits in
    let c = w.count in
    record {
      count = tally_join limit room es (write (put t) ∷ []) (at 0) ∙ rw (c, q) refl;
      inside = omega (arith, v.inside e, v.kept);
      text = v.text e ∙ rw w.text (sym (text_join es (write (put t) ∷ []) ∙ ap (λ (x : List ℕ). text_of es ++ x) (append-nil t)));
    }

-- ## What stands in the scratch

-- at the first step
begun_start : {limit room : ℕ} {r : Record} {zone s : List ℕ} {l d : ℕ} {out : List ℕ} → Sound s l d → Begun limit room r zone s (6 + l + d * 8) 2 out 0
unfolding loaded
begun_start {r = r} {zone} {s} {l} {d} w =
    record {
      found = [];
      rest = ap (part_events (events_of r zone)) (same_parts steps (steps_here a) (literals_here a ∙ ap (λ (k : ℕ). take k (drop 2 s)) (a.literals ∙ sym all)));
      taken = then_well a ∙ ap (λ (t : Bool). t && steps_taken (sections s).steps (sections s).from_steps (sections s).directives (sections s).literals) w.entries ∙ same_taken steps (steps_here a) (sym all);
      standing = record { ends = omega (arith, a.bytes); behind = omega (arith, a.literals, a.directives); starts = omega arith; within = omega arith };
      front = front_none;
    }
  where
    a : Agreed s l d
    a = w.counts

    steps : (sections s).steps ≡ steps_left s (6 + l + d * 8)
    steps = omega (arith, a.bytes)

    all : 2 + (sections s).literals - 2 ≡ (sections s).literals
    all = omega arith

    same_parts : {m n : ℕ} {x y bytes more : List ℕ} → m ≡ n → x ≡ y → bytes ≡ more → steps_of m x (entries_of (sections s).directives (sections s).from_directives) bytes ≡ steps_of n y (entries_of (sections s).directives (sections s).from_directives) more
    same_parts p q e = rw (p, q, e)

    same_taken : {m n k j : ℕ} {x y : List ℕ} → m ≡ n → x ≡ y → k ≡ j → steps_taken m x (sections s).directives k ≡ steps_taken n y (sections s).directives j
    same_taken p q e = rw (p, q, e)

module _ {limit room : ℕ} {r : Record} {zone s : List ℕ} {i from : ℕ} {l : List ℕ} {n : ℕ} (w : Begun limit room r zone s i from l n) where
  begun_text : {to : ℕ} {t l' : List ℕ} {ended : Bool} → Step s i from to (text t) → Copied t l n l' ended → ended ≡ true → Room l room → Begun limit room r zone s (i + 3) to l' (n + length t)
  begun_text {t = t} v c e g =
      record {
        found = w.found ++ (write (put t) ∷ []);
        rest = w.rest ∙ ap (λ (es : List Event). w.found ++ es) (events_on v r zone) ∙ sym (append_assoc w.found _ _);
        taken = w.taken ∙ v.taken;
        standing = v.standing;
        front = front_put w.front c e g;
      }

  begun_piece : {to n' : ℕ} {p : Piece} {l' : List ℕ} → Step s i from to (piece p) → Ran limit room (events_of r zone p) l n l' n' → n' ≤ length l → length l ≤ 65536 → Begun limit room r zone s (i + 3) to l' n'
  begun_piece {p = p} v u h g =
      record {
        found = w.found ++ events_of r zone p;
        rest = w.rest ∙ ap (λ (es : List Event). w.found ++ es) (events_on v r zone) ∙ sym (append_assoc w.found _ _);
        taken = w.taken ∙ v.taken;
        standing = v.standing;
        front = front_on w.front u h g;
      }

  begun_still : {l' : List ℕ} → take n l' ≡ take n l → length l' ≡ length l → Begun limit room r zone s i from l' n
  begun_still e k = record { found = w.found; rest = w.rest; taken = w.taken; standing = w.standing; front = front_still w.front e k }

-- ## The rest

module _ {limit : ℕ} {r : Record} {zone s : List ℕ} {i from n : ℕ} {l b : List ℕ} (g : Room l (length b)) (w : Begun limit (length b) r zone s i from l n) where
  module _ (t : taken_from s i from ≡ true) {m : ℕ} {x : List ℕ} (v : Ran limit (length b) (part_events (events_of r zone) (parts_from s i from)) [] n x m) where
    pub rest_refused : 65536 < m → Stamped limit (all_events r zone s) l b (x ++ l) b m
    rest_refused h = passes_first (w.taken ∙ t) (rw (sym w.rest) at (front_refused {b = b} g w.front v h))

    pub rest_written : {b₁ b' : List ℕ} {m' : ℕ} → m ≤ 65536 → b₁ ≡ take n (x ++ l) ++ drop n b → Ran limit (length b) (part_events (events_of r zone) (parts_from s i from)) b₁ n b' m' → Stamped limit (all_events r zone s) l b (x ++ l) b' m'
    rest_written h q u = passes_first (w.taken ∙ t) (rw (sym w.rest) at (front_written {b = b} g w.front v h q u))

  pub rest_bad : taken_from s i from ≡ false → {k : ℕ} → ((limit room : ℕ) (l : List ℕ) → Ran limit room (judged (number_of BadStored) ∷ []) l 0 l k) → Stamped limit (all_events r zone s) l b l b k
  rest_bad t v = fails_first (w.taken ∙ t) (judged_first v) refl

-- ## The loop

-- the scratch is l₀ and the buffer b₀ where it begins: what stands in the scratch, whose length stays, and the buffer as it was
pub record Stamping (limit : ℕ) (r : Record) (zone s l₀ b₀ : List ℕ) (i from : ℕ) (l b : List ℕ) (n : ℕ) : Type 0 where
  pub begun : Begun limit (length b₀) r zone s i from l n
  pub scratch : length l ≡ length l₀
  pub buffer : b ≡ b₀

pub stamping_start : {limit : ℕ} {r : Record} {zone s l₀ b₀ : List ℕ} {l d : ℕ} → Sound s l d → Stamping limit r zone s l₀ b₀ (6 + l + d * 8) 2 l₀ b₀ 0
stamping_start w = record { begun = begun_start w; scratch = refl; buffer = refl }

module _ {limit : ℕ} {r : Record} {zone s l₀ b₀ : List ℕ} {i from : ℕ} {l b : List ℕ} {n : ℕ} (g : Room l₀ (length b₀)) (w : Stamping limit r zone s l₀ b₀ i from l b n) where
  pub stamping_room : Room l (length b₀)
  stamping_room = record { within = omega (arith, w.scratch, g.within); small = g.small }

  -- a step that isn't taken
  pub stamping_bad : taken_from s i from ≡ false → {k : ℕ} → ((limit room : ℕ) (l : List ℕ) → Ran limit room (judged (number_of BadStored) ∷ []) l 0 l k) → Stamped limit (all_events r zone s) l₀ b₀ l b k
  stamping_bad t v = stamped_from {l = l₀} refl w.buffer (fails_first (w.begun.taken ∙ t) (judged_first v) w.scratch)

  pub stamping_text : {t l' : List ℕ} {to m : ℕ} {ended : Bool} → Step s i from to (text t) → Copied t l n l' ended → ended ≡ true → m ≡ n + length t → Stamping limit r zone s l₀ b₀ (i + 3) to l' b m
  stamping_text v c e q = record { begun = rw q (begun_text w.begun v c e stamping_room); scratch = c.kept ∙ w.scratch; buffer = w.buffer }

  pub stamping_piece : {to m : ℕ} {p : Piece} {l' : List ℕ} → Step s i from to (piece p) → Ran limit (length b₀) (events_of r zone p) l n l' m → m ≤ length l' → Stamping limit r zone s l₀ b₀ (i + 3) to l' b m
  stamping_piece v u h =
      let long = kept u in
      record { begun = begun_piece w.begun v u (omega arith) (omega (arith, stamping_room.within, g.small)); scratch = long ∙ w.scratch; buffer = w.buffer }

  -- what `rest` asks, where a step has changed the scratch behind the place only
  pub handed_over : {l' : List ℕ} {k d : ℕ} → Agreed s k d → take n l' ≡ take n l → length l' ≡ length l → Room l' (length b) × Agreed s k d × Begun limit (length b) r zone s i from l' n
  handed_over a e k = (
    record { within = omega (arith, w.scratch, g.within, ap length w.buffer); small = omega (arith, g.small, ap length w.buffer) },
    a,
    rw w.buffer (begun_still w.begun e k),
  )

  -- what it answers is the answer from the start
  pub handed_back : {l' l'' b' : List ℕ} {m : ℕ} → length l' ≡ length l → Stamped limit (all_events r zone s) l' b l'' b' m → Stamped limit (all_events r zone s) l₀ b₀ l'' b' m
  handed_back k v = stamped_from (k ∙ w.scratch) w.buffer v

  -- all steps ended within the scratch: its front is copied
  pub stamping_copies : (n ≤ length b) × (n ≤ length l)
  stamping_copies = (omega (arith, w.begun.front.inside, stamping_room.within, ap length w.buffer), w.begun.front.inside)

  pub stamping_end : {b' : List ℕ} → length s ≤ i → b' ≡ take n l ++ drop n b → Stamped limit (all_events r zone s) l₀ b₀ l b' n
  unfolding part_events
  stamping_end h e =
      let none = none_left w.begun.standing h in
      let nothing_left = none.1 in
      let text_is : w.begun.found ≡ part_events (events_of r zone) (loaded s) = sym (rw (nothing_left, append-nil) at w.begun.rest) in
      let inside_buffer : n ≤ length b₀ = omega (arith, w.begun.front.inside, stamping_room.within) in
      let small_place : n ≤ 65536 = omega (arith, g.small) in
      passes_first (w.begun.taken ∙ none.0)
      (stamped (front_in (same_front text_is w.begun.front) b₀ small_place inside_buffer (e ∙ ap (λ (x : List ℕ). take n l ++ drop n x) w.buffer)) small_place w.scratch)
