-- Literals: the bytes of a format that stand before the next percent sign.
use Rattle.std.specs.Prelude.{cond, List, [], ◌∷◌, ℕ, suc, ◌+◌, eqb, drop}
use Rattle.rules.specs.Ascii.{byte}

unfoldable pub literal_count : List ℕ → ℕ
literal_count [] = 0
literal_count (b ∷ bytes) = cond (eqb b (byte "%")) 0 (suc (literal_count bytes))

-- the first percent sign at or after `from`, or the end; `from` itself past the end
abbrev pub literal_end : List ℕ → ℕ → ℕ
literal_end format from = from + literal_count (drop from format)
