-- The counts, one after the other: where the next lies behind the end, or bytes are left over, the form is not well stored. The places of the sections.
use mathlib.Core.Path.{◌≡◌, refl, sym, ap, ◌∙◌}
use mathlib.Core.Bool.{false, ◌&&◌}
use mathlib.Core.List.{List}
use Prim.Native.Nat.{ℕ, ◌+◌, ◌*◌, ◌<◌}
use native.Mathlib.Omega.{arith}
use borrow.Author.Tests.{eq-eqb, ne_eqb}
use lib.ListN.{length, take, drop}
use lib.Seq.{drop-drop}
use Rattle.rules.specs.Stored.{two_of, entries_taken, steps_taken, Sections, sections_by, sections, sections_taken, well_stored}
use Rattle.std.specs.Prelude.{Option, None}
use Rattle.sections.specs.declared.Counts.{Counts}
use Rattle.sections.specs.Counted.{Agreed, Counted}

-- the sections behind l literal bytes and d directives
abbrev placed : List ℕ → ℕ → ℕ → Sections
placed s l d =
    record {
      literals = l;
      directives = d;
      steps = two_of (drop (4 + l + d * 8) s);
      literal_bytes = take l (drop 2 s);
      from_directives = drop (4 + l) s;
      from_steps = drop (6 + l + d * 8) s;
    }

by_place : (s : List ℕ) (l d : ℕ) → sections_by l d s ≡ placed s l d
by_place s l d =
    let p : 2 + l + 2 ≡ 4 + l = omega arith in
    let q : 4 + l + d * 8 + 2 ≡ 6 + l + d * 8 = omega arith in
    let a : drop 2 (drop l (drop 2 s)) ≡ drop (4 + l) s = ap (drop 2) (drop-drop l 2 s) ∙ drop-drop 2 (2 + l) s ∙ ap (λ (k : ℕ). drop k s) p in
    let b : drop (d * 8) (drop (4 + l) s) ≡ drop (4 + l + d * 8) s = drop-drop (d * 8) (4 + l) s in
    let c : drop 2 (drop (4 + l + d * 8) s) ≡ drop (6 + l + d * 8) s = drop-drop 2 (4 + l + d * 8) s ∙ ap (λ (k : ℕ). drop k s) q in
    rw (a, b, c)

module _ (s : List ℕ) {l d : ℕ} (el : l ≡ two_of (drop 0 s)) (ed : d ≡ two_of (drop (2 + l) s)) where
  places_at : sections s ≡ placed s l d
  unfolding sections
  places_at =
      let a : two_of (drop (two_of s) (drop 2 s)) ≡ d = ap (λ (k : ℕ). two_of (drop k (drop 2 s))) (sym el) ∙ ap two_of (drop-drop l 2 s) ∙ sym ed in
      rw a (rw (← el) (by_place s l d))

  well_at : well_stored s ≡ sections_taken (length s) (placed s l d)
  unfolding well_stored
  well_at = ap (sections_taken (length s)) places_at

-- whatever the counts that are not read yet
pub none_there : (s : List ℕ) → length s < 6 → well_stored s ≡ false
none_there s h =
    let e = ne_eqb (length s) (6 + two_of s + two_of (drop (2 + two_of s) s) * 8 + two_of (drop (4 + two_of s + two_of (drop (2 + two_of s) s) * 8) s) * 3) (λ q. omega arith) in
    rw (well_at s refl refl, e)

pub short_literals : (s : List ℕ) {l : ℕ} → l ≡ two_of (drop 0 s) → length s < 6 + l → well_stored s ≡ false
short_literals s {l} el h =
    let e = ne_eqb (length s) (6 + l + two_of (drop (2 + l) s) * 8 + two_of (drop (4 + l + two_of (drop (2 + l) s) * 8) s) * 3) (λ q. omega arith) in
    rw (well_at s el refl, e)

module _ (s : List ℕ) {l d : ℕ} (el : l ≡ two_of (drop 0 s)) (ed : d ≡ two_of (drop (2 + l) s)) where
  pub short_directives : length s < 6 + l + d * 8 → well_stored s ≡ false
  short_directives h =
      let e = ne_eqb (length s) (6 + l + d * 8 + two_of (drop (4 + l + d * 8) s) * 3) (λ q. omega arith) in
      rw (well_at s el ed, e)

  module _ {n : ℕ} (en : n ≡ two_of (drop (4 + l + d * 8) s)) where
    pub left_over : (length s ≡ 6 + l + d * 8 + n * 3 → ⊥) → well_stored s ≡ false
    left_over h = let e = ne_eqb (length s) (6 + l + d * 8 + n * 3) h in rw (well_at s el ed, ← en, e)

    pub agree : length s ≡ 6 + l + d * 8 + n * 3 → Agreed s l d
    agree h =
        let p = places_at s el ed in
        record {
          literals = sym (ap (λ (x : Sections). x.literals) p);
          directives = sym (ap (λ (x : Sections). x.directives) p);
          bytes = h ∙ ap (λ (k : ℕ). 6 + l + d * 8 + k * 3) (en ∙ sym (ap (λ (x : Sections). x.steps) p));
        }

-- an answer that there are none
pub disagree : (s : List ℕ) {r : Option Counts} → r ≡ None → well_stored s ≡ false → Counted s r
disagree s e w = rw e w

-- ## Counts and bytes agree

module _ {s : List ℕ} {l d : ℕ} (w : Agreed s l d) where
  -- what is left to check
  pub then_well : well_stored s ≡ entries_taken (sections s).directives (sections s).from_directives && steps_taken (sections s).steps (sections s).from_steps (sections s).directives (sections s).literals
  unfolding well_stored
  then_well =
      let e = eq-eqb (length s) (6 + (sections s).literals + (sections s).directives * 8 + (sections s).steps * 3) (omega (arith, w.literals, w.directives, w.bytes)) in
      rw e

  -- the sections' places
  here : sections s ≡ placed s l d
  unfolding sections
  here =
      by_place s (sections s).literals (sections s).directives
      ∙ ap (λ (k : ℕ). placed s k (sections s).directives) (sym w.literals)
      ∙ ap (placed s l) (sym w.directives)

  pub literals_here : (sections s).literal_bytes ≡ take l (drop 2 s)
  literals_here = ap (λ (x : Sections). x.literal_bytes) here

  pub directives_here : (sections s).from_directives ≡ drop (4 + l) s
  directives_here = ap (λ (x : Sections). x.from_directives) here

  pub steps_here : (sections s).from_steps ≡ drop (6 + l + d * 8) s
  steps_here = ap (λ (x : Sections). x.from_steps) here
