-- Literal bytes in the scratch: laid byte by byte; as many as they are, or more.
use mathlib.Core.Path.{◌≡◌, refl, ap, ◌∙◌}
use mathlib.Core.Bool.{true, false}
use mathlib.Core.List.{List, ◌++◌, append_assoc}
use Prim.Native.Nat.{ℕ, ◌+◌, ◌≤◌, ◌<◌}
use native.Mathlib.Omega.{arith}
use lib.ListN.{length, get_or, set, take, drop, length-drop}
use lib.Seq.{length-take-le, get_or-take, get_or-drop, take-take, take-add, take-append-le, drop_at}
use Rattle.text.specs.Overlay.{overlay}
use Rattle.text.proofs.OverlayLaws.{length_overlay, overlay_fits, overlay_before, Laid, laid_more}
use Rattle.stored.specs.Texts.{Copied}

pub part_length : (count from : ℕ) (s : List ℕ) → from + count ≤ length s → length (take count (drop from s)) ≡ count
part_length count from s h = length-take-le count (drop from s) (simp length-drop (omega arith))

pub part_more : {at : ℕ} (count from : ℕ) (s : List ℕ) {l l' : List ℕ} {k : ℕ} → Laid at (take count (drop from s)) l k l' → from + count ≤ length s → k < count → Laid at (take count (drop from s)) l (k + 1) (set l' (at + k) (get_or s (from + k) 0))
part_more {at} count from s {l} {l'} {k} w h g =
    let e : get_or (take count (drop from s)) k 0 ≡ get_or s (from + k) 0 = get_or-take count (drop from s) k 0 g ∙ get_or-drop from s k 0 in
    rw e at (laid_more w (omega (arith, part_length count from s h)))

module _ (s : List ℕ) (from : ℕ) {l l' : List ℕ} {at : ℕ} where
  pub copied_most : (n count : ℕ) → n ≤ count → at + count ≤ length l → from + count ≤ length s → l' ≡ overlay at (take count (drop from s)) l → Copied (take n (drop from s)) l at l' true
  copied_most n count h g k e =
      let u = take count (drop from s) in
      let long : length u ≡ count = part_length count from s k in
      let short : length (take n (drop from s)) ≡ n = part_length n from s (omega arith) in
      let laid : l' ≡ take at l ++ (u ++ drop (at + length u) l) = e ∙ overlay_fits at u l (omega arith) ∙ append_assoc (take at l) u _ in
      let front : take at l' ≡ take at l = ap (take at) e ∙ overlay_before at at u l (omega arith) in
      let behind : take n (drop at l') ≡ take n (drop from s) =
      ap (λ (x : List ℕ). take n (drop at x)) laid ∙ ap (take n) (drop_at (take at l) _ at (length-take-le at l (omega arith))) ∙ take-append-le n u _ (omega arith) ∙ take-take n count (drop from s) h in
      record {
        kept = ap length e ∙ length_overlay at u l;
        before = front;
        inside = λ t. omega arith;
        text = λ t. rw (short, take-add at n l', front, behind);
      }

pub copied_none : {t l : List ℕ} {n : ℕ} → Copied t l n l false
copied_none = record { kept = refl; before = refl; inside = λ t. never t; text = λ t. never t }
  where
    never : {A : Type 0} → false ≡ true → A
    never e = let z : ◌≡◌ {A = ℕ} 0 1 = cc in absurd (omega arith)
