-- The step at a position, by what it names; and the walk over the steps that are left.
use mathlib.Core.Path.{◌≡◌, refl, sym, ap, ◌∙◌}
use mathlib.Core.Bool.{Bool, true, false, cond}
use mathlib.Core.List.{List, [], ◌∷◌, ◌++◌, append_assoc, append-nil}
use Prim.Native.Nat.{ℕ, zero, suc, ◌+◌, ◌-◌, ◌*◌, ◌≤◌, ◌<◌}
use native.Mathlib.Decide.{dec_lt}
use native.Mathlib.Omega.{arith}
use borrow.Author.Tests.{eq-eqb, ne_eqb}
use lib.Dec.{eqb}
use lib.ListN.{length, get_or, take, drop}
use lib.Seq.{drop-drop, take-take, take-nil}
use Rattle.rules.specs.declared.Piece.{Piece}
use Rattle.rules.specs.declared.Record.{Record}
use Rattle.rules.specs.Event.{put, Event, write}
use Rattle.rules.specs.Writing.{events_of}
use Rattle.rules.specs.Stored.{Part, text, piece, part_events, two_of, entry_of, entries_of, no_piece, steps_of, steps_taken, sections}
use Rattle.text.specs.Ran.{Ran}
use Rattle.text.proofs.RanLaws.{◌then◌, nothing, same_events}
use Rattle.codes.proofs.EntryLaws.{byte_here}
use Rattle.sections.specs.Counted.{Agreed}
use Rattle.sections.proofs.CountLaws.{directives_here}
use Rattle.sections.proofs.StepLaws.{text_passes, text_next, no_section, piece_passes, piece_next, steps_end}
use Rattle.stored.specs.Steps.{steps_left, parts_from, taken_from, used_at, Standing, Step, events_in, PartRan}

-- the directive with an index, by its place
entry_at : (d k : ℕ) (s : List ℕ) → k < d → get_or (entries_of d s) k no_piece ≡ entry_of (drop (k * 8) s)
unfolding entries_of
entry_at zero k s h = absurd (omega arith)
entry_at (suc d) zero s h = refl
entry_at (suc d) (suc k) s h =
    let e : 8 + k * 8 ≡ suc k * 8 = omega arith in
    entry_at d k (drop 8 s) (omega arith) ∙ ap entry_of (drop-drop (k * 8) 8 s ∙ ap (λ (m : ℕ). drop m s) e)

-- the literal bytes behind the first n
drop_take : (n m : ℕ) (s : List ℕ) → n ≤ m → drop n (take m s) ≡ take (m - n) (drop n s)
drop_take zero m s h = let e : m - 0 ≡ m = omega arith in rw e refl
drop_take (suc n) zero s h = absurd (omega arith)
drop_take (suc n) (suc m) [] h = sym (take-nil (suc m - suc n))
drop_take (suc n) (suc m) (b ∷ s) h = let e : suc m - suc n ≡ m - n = omega arith in rw e (drop_take n m s (omega arith))

-- what the first of some steps names
abbrev named : ℕ → ℕ → ℕ → List ℕ → List Piece → List ℕ → List Part
named b k n s pieces bytes =
    cond (eqb b 0) (text (take k bytes) ∷ steps_of n s pieces (drop k bytes)) (piece (get_or pieces k no_piece) ∷ steps_of n s pieces bytes)

first_named : (s : List ℕ) (i : ℕ) {k : ℕ} → k ≡ two_of (drop (i + 1) s) → (n : ℕ) (pieces : List Piece) (bytes : List ℕ) → steps_of (suc n) (drop i s) pieces bytes ≡ named (get_or s i 0) k n (drop (i + 3) s) pieces bytes
unfolding steps_of
first_named s i e n pieces bytes = sym (rw (e, byte_here s i, ← drop-drop 1 i s, ← drop-drop 3 i s))

-- how many literal bytes it uses
pub text_uses : (s : List ℕ) (i : ℕ) {n : ℕ} → n ≡ two_of (drop (i + 1) s) → get_or s i 0 ≡ 0 → n ≡ used_at s i
text_uses s i e b = let f = eq-eqb (get_or s i 0) 0 b in e ∙ sym (rw f refl)

pub piece_uses : (s : List ℕ) (i : ℕ) → (get_or s i 0 ≡ 0 → ⊥) → 0 ≡ used_at s i
piece_uses s i a = let f = ne_eqb (get_or s i 0) 0 a in sym (rw f refl)

module _ {s : List ℕ} {i from : ℕ} (w : Standing s i from) (h : i < length s) where
  one_more : steps_left s i ≡ suc (steps_left s (i + 3))
  one_more = omega (arith, w.ends)

  some : 0 < steps_left s i
  some = omega (arith, one_more)

  fewer : steps_left s i - 1 ≡ steps_left s (i + 3)
  fewer = omega (arith, one_more)

  module _ {n : ℕ} (e : n ≡ two_of (drop (i + 1) s)) where
    parted : parts_from s i from ≡ named (get_or s i 0) n (steps_left s (i + 3)) (drop (i + 3) s) (entries_of (sections s).directives (sections s).from_directives) (take (2 + (sections s).literals - from) (drop from s))
    parted = ap (λ (k : ℕ). steps_of k (drop i s) (entries_of (sections s).directives (sections s).from_directives) (take (2 + (sections s).literals - from) (drop from s))) one_more ∙ first_named s i e _ _ _

    -- literal bytes
    module _ (b : get_or s i 0 ≡ 0) where
      pub text_bad : 2 + (sections s).literals - from < n → taken_from s i from ≡ false
      text_bad g = sym (text_passes s i (sections s).directives e b _ _ some g)

      pub text_step : n ≤ 2 + (sections s).literals - from → Step s i from (from + n) (text (take n (drop from s)))
      text_step g =
          let f = eq-eqb (get_or s i 0) 0 b in
          let m = fewer in
          let left : 2 + (sections s).literals - from - n ≡ 2 + (sections s).literals - (from + n) = omega arith in
          let first : take n (take (2 + (sections s).literals - from) (drop from s)) ≡ take n (drop from s) = take-take n _ (drop from s) g in
          let bytes : drop n (take (2 + (sections s).literals - from) (drop from s)) ≡ take (2 + (sections s).literals - (from + n)) (drop (from + n) s) = drop_take n _ (drop from s) g ∙ rw (left, drop-drop) in
          record {
            taken = sym (rw (m, left) at (text_next s i (sections s).directives e b (steps_left s i) (2 + (sections s).literals - from) some g));
            parts = parted ∙ rw (f, first, bytes);
            standing = record { ends = omega (arith, w.ends); behind = omega (arith, w.behind); starts = omega (arith, w.starts); within = omega (arith, w.within) };
          }

    pub no_step : (get_or s i 0 ≡ 0 → ⊥) → (get_or s i 0 ≡ 1 → ⊥) → taken_from s i from ≡ false
    no_step a b = sym (no_section s i (sections s).directives e _ _ some a b)

    -- a directive
    module _ (b : get_or s i 0 ≡ 1) where
      pub piece_bad : (sections s).directives ≤ n → taken_from s i from ≡ false
      piece_bad g = sym (piece_passes s i (sections s).directives e b _ _ some g)

      pub piece_step : {l d : ℕ} → Agreed s l d → n < d → Step s i from from (piece (entry_of (drop (4 + l + n * 8) s)))
      piece_step {l} {d} q g =
          let f = ne_eqb (get_or s i 0) 0 (λ z. omega arith) in
          let m = fewer in
          let small : n < (sections s).directives = omega (arith, q.directives) in
          let p : get_or (entries_of (sections s).directives (sections s).from_directives) n no_piece ≡ entry_of (drop (4 + l + n * 8) s) =
          entry_at (sections s).directives n (sections s).from_directives small ∙ ap (λ (x : List ℕ). entry_of (drop (n * 8) x)) (directives_here q) ∙ ap entry_of (drop-drop (n * 8) (4 + l) s) in
          record {
            taken = sym (rw m at (piece_next s i (sections s).directives e b (steps_left s i) (2 + (sections s).literals - from) some small));
            parts = parted ∙ rw (f, p);
            standing = record { ends = omega (arith, w.ends); behind = omega (arith, w.behind); starts = w.starts; within = w.within };
          }

      pub piece_there : {l d : ℕ} → Agreed s l d → n < d → 4 + l + n * 8 + 8 ≤ length s
      piece_there q g = omega (arith, q.literals, q.directives, w.behind, w.ends)

  -- ## A step that is taken

  module _ (t : taken_from s i from ≡ true) {n : ℕ} (e : n ≡ two_of (drop (i + 1) s)) where
    never : {A : Type 0} → taken_from s i from ≡ false → A
    never f = let z : ◌≡◌ {A = ℕ} 0 1 = cc in absurd (omega arith)

    pub text_fits : get_or s i 0 ≡ 0 → n ≤ 2 + (sections s).literals - from
    text_fits b =
        elim (dec_lt (2 + (sections s).literals - from) n) [
          | yes g ↦ never (text_bad e b g)
          | no g ↦ omega arith
        ]

    pub must_name : (get_or s i 0 ≡ 0 → ⊥) → get_or s i 0 ≡ 1
    must_name a =
        elim (dec_lt 1 (get_or s i 0)) [
          | yes b ↦ never (no_step e a (λ q. omega arith))
          | no b ↦ omega (arith, a)
        ]

    pub piece_fits : (get_or s i 0 ≡ 0 → ⊥) → n < (sections s).directives
    piece_fits a =
        elim (dec_lt n (sections s).directives) [
          | yes g ↦ g
          | no g ↦ never (piece_bad e (must_name a) (omega arith))
        ]

    module _ {limit room : ℕ} (r : Record) (zone : List ℕ) {l l' : List ℕ} {k k' : ℕ} where
      pub ran_text : get_or s i 0 ≡ 0 → Ran limit room (write (put (take (from + n - from) (drop from s))) ∷ []) l k l' k' → PartRan limit room r zone s i from l k l' k'
      ran_text b v =
          let c : from + n - from ≡ n = omega arith in
          let u = text_uses s i e b in
          record { part = text (take n (drop from s)); step = rw (← u) (text_step e b (text_fits b)); ran = rw c at v }

      pub ran_piece : {a d : ℕ} → (get_or s i 0 ≡ 0 → ⊥) → Agreed s a d → Ran limit room (events_of r zone (entry_of (drop (4 + a + n * 8) s))) l k l' k' → PartRan limit room r zone s i from l k l' k'
      ran_piece {a} f q v =
          let u = piece_uses s i f in
          let same : from + 0 ≡ from = omega arith in
          record { part = piece (entry_of (drop (4 + a + n * 8) s)); step = rw (← u, same) (piece_step e (must_name f) q (omega (arith, piece_fits f, q.directives))); ran = v }

-- the answer of a check over the counts
pub taken_by : {s : List ℕ} (i from : ℕ) {l d : ℕ} {ok : Bool} → Agreed s l d → ok ≡ steps_taken (steps_left s i) (drop i s) d (2 + l - from) → ok ≡ taken_from s i from
taken_by i from w e = let a = w.literals in let b = w.directives in e ∙ rw (a, b) refl

-- ## The steps that are left, one by one

-- the events of a part, and of those behind it
part_first : (events_for : Piece → List Event) (p : Part) (ps : List Part) → part_events events_for (p ∷ ps) ≡ events_in events_for p ++ part_events events_for ps
unfolding part_events
part_first events_for (text bytes) ps = refl
part_first events_for (piece p) ps = refl

module _ {s : List ℕ} {i from to : ℕ} {p : Part} (w : Step s i from to p) (r : Record) (zone : List ℕ) where
  pub events_on : part_events (events_of r zone) (parts_from s i from) ≡ events_in (events_of r zone) p ++ part_events (events_of r zone) (parts_from s (i + 3) to)
  events_on = ap (part_events (events_of r zone)) w.parts ∙ part_first (events_of r zone) p _

-- no step is left
pub none_left : {s : List ℕ} {i from : ℕ} → Standing s i from → length s ≤ i → (taken_from s i from ≡ true) × (parts_from s i from ≡ [])
unfolding steps_of
none_left {s} {i} {from} w h =
    let e : steps_left s i ≡ 0 = omega (arith, w.ends) in
    (sym (steps_end (steps_left s i) (drop i s) _ _ (omega arith)), rw e)

-- the steps from the one at `step` to that at i were run, over the list l₀ from place `place` on; those from i on are taken
pub record Walked (limit room : ℕ) (r : Record) (zone s : List ℕ) (step literal : ℕ) (l₀ : List ℕ) (place : ℕ) (i from : ℕ) (l : List ℕ) (n : ℕ) : Type 0 where
  pub found : List Event
  pub rest : part_events (events_of r zone) (parts_from s step literal) ≡ found ++ part_events (events_of r zone) (parts_from s i from)
  pub taken : taken_from s i from ≡ true
  pub standing : Standing s i from
  pub ran : Ran limit room found l₀ place l n

module _ {limit room : ℕ} {r : Record} {zone s : List ℕ} {step literal : ℕ} {l₀ : List ℕ} {place : ℕ} where
  pub walk_start : Standing s step literal → taken_from s step literal ≡ true → Walked limit room r zone s step literal l₀ place step literal l₀ place
  walk_start w t = record { found = []; rest = refl; taken = t; standing = w; ran = nothing }

  pub walk_on : {i from n n' u : ℕ} {l l' : List ℕ} → Walked limit room r zone s step literal l₀ place i from l n → PartRan limit room r zone s i from l n l' n' → u ≡ used_at s i → Walked limit room r zone s step literal l₀ place (i + 3) (from + u) l' n'
  walk_on {from = from} w v e =
      let to = ap (λ (k : ℕ). from + k) e in
      rw to
      (record {
        found = w.found ++ events_in (events_of r zone) v.part;
        rest = w.rest ∙ ap (λ (es : List Event). w.found ++ es) (events_on v.step r zone) ∙ sym (append_assoc w.found _ _);
        taken = sym v.step.taken ∙ w.taken;
        standing = v.step.standing;
        ran = w.ran then v.ran;
      })

  pub walk_end : {i from n : ℕ} {l : List ℕ} → Walked limit room r zone s step literal l₀ place i from l n → length s ≤ i → Ran limit room (part_events (events_of r zone) (parts_from s step literal)) l₀ place l n
  unfolding part_events
  walk_end w h = let e = (none_left w.standing h).1 in same_events (sym (rw (e, append-nil) at w.rest)) w.ran
