-- A quoted text as the list of its bytes.
use mathlib.Core.List as list
use Rattle.std.specs.Prelude.{List, ℕ}
use Prim.Native.Char.{Char, code}
use Prim.Native.String.{String, [], ◌∷◌}

-- one letter
abbrev pub byte : Char → ℕ
byte c = code c

abbrev pub ascii : String → List ℕ
ascii [] = list.[]
ascii (c ∷ s) = list.◌∷◌ (code c) (ascii s)
