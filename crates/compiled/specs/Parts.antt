-- What stands at a position of a format, part by part.
use Rattle.std.specs.Prelude.{◌≡◌, Option, Some, None, List, [], ◌∷◌, ℕ, ◌-◌, ◌≤◌, ◌<◌, length, take, drop, get_or}
use Rattle.rules.specs.declared.Piece.{Piece}
use Rattle.rules.specs.Format.{between, read}
use Rattle.rules.specs.Stored.{Part, text, piece, unskipped, join_text, parts}
use Rattle.compiled.specs.declared.parts.Next.{Next}
use Rattle.compiled.specs.declared.parts.Next.TheVariants.{Text, Directive}

-- the parts from position i on
abbrev pub parts_at : List ℕ → ℕ → List Part
parts_at format i = parts (read between (drop i format))

-- the bytes from i up to e
abbrev pub bytes_to : List ℕ → ℕ → ℕ → List ℕ
bytes_to format i e = take (e - i) (drop i format)

-- no bytes are no part
abbrev pub add_text : List ℕ → List Part → List Part
add_text [] ps = ps
add_text (b ∷ bytes) ps = join_text (b ∷ bytes) ps

-- the parts start with no text
abbrev pub Apart : List Part → Type 0
Apart [] = Unit {0}
Apart (text bytes ∷ ps) = ⊥
Apart (piece p ∷ ps) = Unit {0}

-- from i on, the bytes up to e stand for themselves
pub record TextTo (format : List ℕ) (i e : ℕ) : Type 0 where
  pub parted : parts_at format i ≡ add_text (bytes_to format i e) (parts_at format e)
  pub onward : i ≤ e
  pub within : i ≤ length format → e ≤ length format

-- and no more
pub record TextEnds (format : List ℕ) (i e : ℕ) : Type 0 where
  pub reached : TextTo format i e
  pub apart : Apart (parts_at format e)
  pub percent : e < length format → get_or format e 0 ≡ 37

pub record TextNext (format : List ℕ) (i e : ℕ) : Type 0 where
  pub parted : parts_at format i ≡ text (bytes_to format i e) ∷ parts_at format e
  pub onward : i < e
  pub within : e ≤ length format

pub record PieceNext (format : List ℕ) (i : ℕ) (p : Piece) (next : ℕ) : Type 0 where
  pub parted : parts_at format i ≡ piece (unskipped p) ∷ parts_at format next
  pub onward : i < next
  pub within : next ≤ length format

abbrev pub NextPart : List ℕ → ℕ → Option Next → Type 0
NextPart format i (Some (Text e)) = TextNext format i e
NextPart format i (Some (Directive p next)) = PieceNext format i p next
NextPart format i None = parts_at format i ≡ []
