-- A text laid over a list of bytes.
use Rattle.std.specs.Prelude.{List, [], ◌∷◌, ℕ, suc, set}

-- the list l with the bytes of a text laid over it from place `at` on: each byte whose place is in l stands there, the others are dropped.
-- (`set l at b` is l itself where l has no place `at`.)
unfoldable pub overlay : ℕ → List ℕ → List ℕ → List ℕ
overlay at [] l = l
overlay at (b ∷ t) l = overlay (suc at) t (set l at b)
