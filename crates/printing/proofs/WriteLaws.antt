-- The place after a text that has room, and four stores as one text.
use Rattle.std.specs.Prelude.{◌≡◌, ℕ, ◌+◌, ◌≤◌, List, [], ◌∷◌, length, set}
use mathlib.Core.Path.{refl, sym, ◌∙◌}
use native.Mathlib.Omega.{arith}
use Rattle.rules.specs.Event.{put, write}
use Rattle.text.specs.Overlay.{overlay}
use Rattle.text.specs.Ran.{Ran}
use Rattle.text.proofs.CountLaws.{put_counted}
use Rattle.text.proofs.OverlayLaws.{overlay_two, overlay_append}
use Rattle.text.proofs.PlaceLaws.{same_place}

-- the place after a text that has room
pub place_after : {limit room : ℕ} {t l l' : List ℕ} {n r : ℕ} → Ran limit room (write (put t) ∷ []) l n l' r → n + length t ≤ room → room ≤ 65536 → r ≡ n + length t
place_after {limit} {room} {t} {n = n} w h g =
    same_place (w.count ∙ sym (put_counted limit room t n (n + length t) refl h g))

pub overlay_four : (n a b c d : ℕ) (l : List ℕ) → overlay n (a ∷ b ∷ c ∷ d ∷ []) l ≡ set (set (set (set l n a) (n + 1) b) (n + 2) c) (n + 3) d
overlay_four n a b c d l =
    let e : n + 2 + 1 ≡ n + 3 = omega arith in
    overlay_append n (a ∷ b ∷ []) (c ∷ d ∷ []) l ∙ rw (overlay_two, overlay_two, e)
