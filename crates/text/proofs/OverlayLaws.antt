-- The laws of a text laid over a list: texts one after the other, a text that fits, a text laid byte by byte.
use mathlib.Core.Path.{◌≡◌, refl, sym, ap, ◌∙◌}
use mathlib.Core.List.{List, [], ◌∷◌, ◌++◌, append_assoc}
use Prim.Native.Nat.{ℕ, zero, suc, ◌+◌, ◌≤◌, ◌<◌}
use native.Mathlib.Nat.{add-zero, suc-add, add-suc, zero-add}
use native.Mathlib.Numerals.{add-one}
use native.Mathlib.Omega.{arith}
use lib.ListN.{length, get_or, set, take, drop, length-set}
use lib.Seq.{sets, sets-eq, set_out, take-set-le, drop-set-lt, take-suc, take_all, length-take-le}
use borrow.Rule.Slice.PartMut.{put_mid}
use Rattle.std.proofs.lemmas.Slice.{put_mid-paste}
use Rattle.text.specs.Overlay.{overlay}

pub overlay_nil : (at : ℕ) (l : List ℕ) → overlay at [] l ≡ l
unfolding overlay
overlay_nil at l = refl

pub overlay_one : (at b : ℕ) (l : List ℕ) → overlay at (b ∷ []) l ≡ set l at b
unfolding overlay
overlay_one at b l = refl

pub overlay_two : (at a b : ℕ) (l : List ℕ) → overlay at (a ∷ b ∷ []) l ≡ set (set l at a) (at + 1) b
unfolding overlay
overlay_two at a b l = rw add-one

pub length_overlay : (at : ℕ) (t l : List ℕ) → length (overlay at t l) ≡ length l
unfolding overlay
length_overlay at [] l = refl
length_overlay at (b ∷ t) l = length_overlay (suc at) t (set l at b) ∙ length-set l at b

pub overlay_append : (at : ℕ) (a b l : List ℕ) → overlay at (a ++ b) l ≡ overlay (at + length a) b (overlay at a l)
unfolding overlay
overlay_append at [] b l = ap (λ (k : ℕ). overlay k b l) (sym (add-zero at))
overlay_append at (x ∷ a) b l =
    overlay_append (suc at) a b (set l at x)
    ∙ ap (λ (k : ℕ). overlay k b (overlay (suc at) a (set l at x))) (suc-add at (length a) ∙ sym (add-suc at (length a)))

overlay_sets : (at : ℕ) (t l : List ℕ) → overlay at t l ≡ sets l at t
unfolding overlay
overlay_sets at [] l = refl
overlay_sets at (b ∷ t) l = overlay_sets (suc at) t (set l at b)

-- a text that fits, and one that fits from the start
pub overlay_fits : (at : ℕ) (t l : List ℕ) → at + length t ≤ length l → overlay at t l ≡ take at l ++ t ++ drop (at + length t) l
overlay_fits at t l h = overlay_sets at t l ∙ sets-eq t l at h

pub overlay_between : (at k : ℕ) (t l : List ℕ) {l' : List ℕ} → length t ≡ k → at + k ≤ length l → l' ≡ take at l ++ (t ++ drop (at + k) l) → l' ≡ overlay at t l
overlay_between at k t l e h q =
    q ∙ sym (overlay_fits at t l (omega arith) ∙ append_assoc (take at l) t (drop (at + length t) l) ∙ ap (λ (m : ℕ). take at l ++ (t ++ drop (at + m) l)) e)

-- a part of the list, written over by a text as long
pub overlay_part : (at k : ℕ) (u t l : List ℕ) → u ≡ t → length t ≡ k → at + k ≤ length l → put_mid at k l u ≡ overlay at t l
overlay_part at k u t l e q h =
    put_mid-paste at k l u t (length t) e q refl
    ∙ ap (λ (x : List ℕ). take at l ++ x ++ drop (at + length t) l) (take_all (length t) t (omega arith))
    ∙ sym (overlay_fits at t l (omega arith))

pub overlay_front : (t l : List ℕ) → length t ≤ length l → overlay 0 t l ≡ t ++ drop (length t) l
overlay_front t l h = overlay_fits 0 t l (omega arith) ∙ ap (λ (k : ℕ). t ++ drop k l) (zero-add (length t))

pub overlay_taken : (n : ℕ) (s l : List ℕ) → n ≤ length s → n ≤ length l → overlay 0 (take n s) l ≡ take n s ++ drop n l
overlay_taken n s l h g =
    let e = length-take-le n s h in
    overlay_front (take n s) l (omega arith) ∙ ap (λ (k : ℕ). take n s ++ drop k l) e

-- ## Bytes that have no place

pub overlay_past : (at : ℕ) (t l : List ℕ) → length l ≤ at → overlay at t l ≡ l
unfolding overlay
overlay_past at [] l h = refl
overlay_past at (b ∷ t) l h = overlay_past (suc at) t (set l at b) (simp length-set (omega arith)) ∙ set_out l at b h

-- the bytes that have a place are as good as all of them
pub overlay_clipped : (at k : ℕ) (t l : List ℕ) → length l ≤ at + k → overlay at (take k t) l ≡ overlay at t l
unfolding overlay
overlay_clipped at zero t l h = sym (overlay_past at t l (omega arith))
overlay_clipped at (suc k) [] l h = refl
overlay_clipped at (suc k) (b ∷ t) l h = overlay_clipped (suc at) k t (set l at b) (simp length-set (omega arith))

-- a text of which only the front is at hand, as far as the list goes
pub overlay_front_of : (at k : ℕ) (t u l : List ℕ) → length l ≤ at + k → u ≡ take k t → overlay at u l ≡ overlay at t l
overlay_front_of at k t u l h e = ap (λ (x : List ℕ). overlay at x l) e ∙ overlay_clipped at k t l h

-- ## Places that no byte is laid on

pub overlay_before : (m at : ℕ) (t l : List ℕ) → m ≤ at → take m (overlay at t l) ≡ take m l
unfolding overlay
overlay_before m at [] l h = refl
overlay_before m at (b ∷ t) l h = overlay_before m (suc at) t (set l at b) (omega arith) ∙ take-set-le m l at b h

pub overlay_behind : (m at : ℕ) (t l : List ℕ) → at + length t ≤ m → drop m (overlay at t l) ≡ drop m l
unfolding overlay
overlay_behind m at [] l h = refl
overlay_behind m at (b ∷ t) l h = overlay_behind m (suc at) t (set l at b) (omega arith) ∙ drop-set-lt m l at b (omega arith)

-- ## A loop that lays the text t over l from place `at` on, byte by byte: after j turns

pub record Laid (at : ℕ) (t l : List ℕ) (j : ℕ) (l' : List ℕ) : Type 0 where
  pub bytes : l' ≡ overlay at (take j t) l
  pub kept : length l' ≡ length l

module _ {at : ℕ} {t l : List ℕ} where
  pub laid_none : Laid at t l 0 l
  laid_none = record { bytes = sym (overlay_nil at l); kept = refl }

  turned : {j : ℕ} {l' : List ℕ} → Laid at t l j l' → j < length t → set l' (at + j) (get_or t j 0) ≡ overlay at (take (j + 1) t) l
  turned {j} w h = rw w.bytes (sym (rw (add-one, take-suc t j 0, overlay_append, length-take-le j t (omega arith), overlay_one)))

  pub laid_more : {j : ℕ} {l' : List ℕ} → Laid at t l j l' → j < length t → Laid at t l (j + 1) (set l' (at + j) (get_or t j 0))
  laid_more w h = record { bytes = turned w h; kept = simp length-set w.kept }

  pub laid_all : {j : ℕ} {l' : List ℕ} → Laid at t l j l' → length t ≤ j → l' ≡ overlay at t l
  laid_all {j} w h = w.bytes ∙ ap (λ (s : List ℕ). overlay at s l) (take_all j t h)
