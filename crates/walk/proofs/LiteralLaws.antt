-- Literal bytes copied one by one.
use mathlib.Core.Path.{◌≡◌, refl, sym, ap, ◌∙◌}
use mathlib.Core.List.{List, [], ◌∷◌, ◌++◌, append_assoc, map, map-append}
use Prim.Native.Nat.{ℕ, ◌+◌, ◌-◌, ◌≤◌, ◌<◌}
use native.Mathlib.Nat.{sub_self}
use native.Mathlib.Numerals.{add-one}
use native.Mathlib.Omega.{arith}
use borrow.Author.Tests.{ne_eqb}
use lib.ListN.{length, get_or, set, take, drop, length-drop}
use lib.Seq.{take-suc, get_or-drop}
use Rattle.rules.specs.Format.{Item, literal, between, step, read}
use Rattle.text.specs.Overlay.{overlay}
use Rattle.text.proofs.OverlayLaws.{overlay_nil, length_overlay, overlay_before, laid_more}
use Rattle.reading.proofs.Laws.{drop_next}
use Rattle.walk.specs.Stamp.{Copied}

-- a byte that is no percent sign is an item
literal_at : (format : List ℕ) (e : ℕ) → e < length format → (get_or format e 0 ≡ 37 → ⊥) → read between (drop e format) ≡ literal (get_or format e 0) ∷ read between (drop (e + 1) format)
unfolding read step
literal_at format e h f = rw (drop_next format e h, ne_eqb _ _ f)

module _ {format : List ℕ} {i : ℕ} {l : List ℕ} {n : ℕ} where
  pub copied_none : i ≤ length format → n ≤ length l → Copied format i l n l i
  copied_none h g =
      record {
        onward = omega arith;
        within = h;
        literals = rw (sub_self i) refl;
        inside = omega arith;
        text = sym (rw (sub_self i) (overlay_nil n l));
      }

  pub copied_kept : {l' : List ℕ} {e : ℕ} → Copied format i l n l' e → length l' ≡ length l
  copied_kept w = ap length w.text ∙ length_overlay n _ l

  pub copied_before : {l' : List ℕ} {e : ℕ} → Copied format i l n l' e → take n l' ≡ take n l
  copied_before w = ap (take n) w.text ∙ overlay_before n n _ l (omega arith)

  pub copied_more : {l' : List ℕ} {e m : ℕ} → Copied format i l n l' e → e < length format → (get_or format e 0 ≡ 37 → ⊥) → m ≡ n + (e - i) → m < length l → Copied format i l n (set l' m (get_or format e 0)) (e + 1)
  copied_more {l'} {e} {m} w h f k g =
      let bytes = drop i format in
      let on = w.onward in
      let there : e - i < length bytes = simp length-drop (omega arith) in
      let here : get_or bytes (e - i) 0 ≡ get_or format e 0 = get_or-drop i format (e - i) 0 ∙ ap (λ (k : ℕ). get_or format k 0) (omega arith) in
      let count : e + 1 - i ≡ e - i + 1 = omega arith in
      let front : take (e + 1 - i) bytes ≡ take (e - i) bytes ++ (get_or format e 0 ∷ []) = rw (count, add-one, ← here) (take-suc bytes (e - i) 0 there) in
      record {
        onward = omega arith;
        within = omega arith;
        literals =
            w.literals
            ∙ ap (λ (is : List Item). map literal (take (e - i) bytes) ++ is) (literal_at format e h f)
            ∙ sym (rw (front, map-append, append_assoc));
        inside = omega arith;
        text =
            ap (λ (k : ℕ). set l' k (get_or format e 0)) k
            ∙ ap (set l' (n + (e - i))) (sym here)
            ∙ (laid_more (record { bytes = w.text; kept = copied_kept w }) there).bytes
            ∙ ap (λ (k : ℕ). overlay n (take k bytes) l) (sym count);
      }
