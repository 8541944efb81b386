-- Case: of a text that is laid byte by byte, and of a zone name.
use mathlib.Core.Path.{◌≡◌}
use mathlib.Core.Bool.{true, false}
use mathlib.Core.List.{List, map}
use Prim.Native.Nat.{ℕ, ◌+◌, ◌<◌}
use lib.ListN.{length, get_or, set, length-map}
use Rattle.rules.specs.declared.Flags.{Flags}
use Rattle.rules.specs.Name.{in_case, zone_case}
use Rattle.std.proofs.lemmas.List.{get_or-map}
use Rattle.text.proofs.OverlayLaws.{Laid, laid_more}
use Rattle.name_directive.specs.Named.{byte_in}

-- ## A text laid over a list byte by byte, each byte through f

pub laid_through : (f : ℕ → ℕ) (t : List ℕ) {at : ℕ} {l : List ℕ} {j b : ℕ} {l' : List ℕ} → Laid at (map f t) l j l' → j < length t → b ≡ f (get_or t j 0) → Laid at (map f t) l (j + 1) (set l' (at + j) b)
laid_through f t {j = j} w h e = rw (e, ← get_or-map f t j 0 0 h) (laid_more w (simp length-map h))

-- ## A text in a case

module _ (f : Flags) (t : List ℕ) where
  pub zone_lowered : f.change ≡ true → map (byte_in true) t ≡ in_case (zone_case f) t
  unfolding in_case
  zone_lowered c = rw c

  pub zone_raised : f.change ≡ false → f.upper ≡ true → map (byte_in false) t ≡ in_case (zone_case f) t
  unfolding in_case
  zone_raised c u = rw (c, u)

  pub zone_same : f.change ≡ false → f.upper ≡ false → t ≡ in_case (zone_case f) t
  unfolding in_case
  zone_same c u = rw (c, u)
