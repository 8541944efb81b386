-- The scan over a text: what is pending after all of it is what is pending after the bytes from a position on.
use mathlib.Core.Path.{◌≡◌, refl, ap, ◌∙◌}
use mathlib.Core.Bool.{Bool, true, false, cond}
use mathlib.Core.List.{List, [], ◌∷◌}
use Prim.Native.Nat.{ℕ, suc, ◌-◌, ◌≤◌}
use native.Mathlib.Omega.{arith}
use lib.Dec.{eqb}
use lib.ListN.{length, drop, length-drop, drop_of_length-le}
use lib.Seq.{drop-drop}
use Rattle.rules.specs.Format.{between, fresh, step, after}
use Rattle.rules.specs.Runs.{pending_of}
use Rattle.reading.specs.Literals.{literal_count, literal_end}

-- ## Literal bytes

literals_pass : (bytes : List ℕ) → after between bytes ≡ after between (drop (literal_count bytes) bytes)
unfolding after step literal_count
literals_pass [] = refl
literals_pass (b ∷ bytes) = go (eqb b 37) refl (literals_pass bytes)
  where
    go : (t : Bool) → eqb b 37 ≡ t → after between bytes ≡ after between (drop (literal_count bytes) bytes) →
        after (fresh b).to bytes ≡ after between (drop (cond t 0 (suc (literal_count bytes))) (b ∷ bytes))
    go true e rest = refl
    go false e rest = rw e rest

-- ## The scan

pub record Scanned (text : List ℕ) (i : ℕ) : Type 0 where
  pub within : i ≤ length text
  pub state : after between text ≡ after between (drop i text)

module _ {text : List ℕ} where
  pub scan_literals : {i e : ℕ} → Scanned text i → e ≡ literal_end text i → e ≤ length text → Scanned text e
  scan_literals {i} w k h =
      record { within = h; state = w.state ∙ literals_pass (drop i text) ∙ rw (k, drop-drop (literal_count (drop i text)) i text) }

  -- so many bytes before the end
  ends : {i : ℕ} → Scanned text i → pending_of (after between (drop i text)) ≡ drop i text → i ≡ length text - length (pending_of (after between text))
  ends {i} w p =
      let e : length (pending_of (after between text)) ≡ length text - i = ap (λ s. length (pending_of s)) w.state ∙ ap length p ∙ length-drop i text in
      omega (arith, w.within)

  pub scan_end : {i : ℕ} → Scanned text i → length text ≤ i → i ≡ length text - length (pending_of (after between text))
  unfolding after
  scan_end {i} w h = ends w (rw (drop_of_length-le text h) refl)
