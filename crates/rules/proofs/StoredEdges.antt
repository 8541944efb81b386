-- Stored forms at the edges, by computing the rules: each row a format, and its stored bytes section by section.
use mathlib.Core.Path.{◌≡◌, refl}
use mathlib.Core.Bool.{Bool, true, false}
use mathlib.Core.List.{List, [], ◌∷◌, ◌++◌, map}
use Prim.Native.Nat.{ℕ}
use lib.ListN.{replicate}
use Rattle.rules.specs.Ascii.{byte, ascii}
use Rattle.rules.specs.Reading.{on_flag, possible_specs, look_up, on_letter, on_colons, member, modified, turn, open?}
use Rattle.rules.specs.Format.{Item, literal, echo, directive, cut, step, ending, read, items}
use Rattle.rules.specs.Stored.{Part, text, piece, join_text, parts, code_of, entry_bytes, literals_in, pieces_in, entries_bytes, steps_bytes, stored}

pub record Row : Type 0 where
  pub format : List ℕ
  pub bytes : List ℕ

abbrev row : List ℕ → List ℕ → List ℕ → List ℕ → Row
row format literals directives order = record { format = format; bytes = literals ++ (directives ++ order) }

-- no entry
abbrev none : List ℕ
none = 0 ∷ 0 ∷ []

-- a directive: its code and what is said of it
abbrev entry : ℕ → ℕ → ℕ → ℕ → List ℕ → List ℕ
entry code padding flags there rest = code ∷ padding ∷ flags ∷ there ∷ rest

abbrev plain : ℕ → List ℕ
plain code = entry code 0 0 0 (replicate 4 0)

abbrev bytes_next : ℕ → List ℕ
bytes_next n = 0 ∷ n ∷ 0 ∷ []

abbrev directive_at : ℕ → List ℕ
directive_at i = 1 ∷ i ∷ 0 ∷ []

unfoldable pub rows : List Row
rows =
    -- the empty format
    row [] none none none
    -- literal bytes and an echo, joined
    ∷ row (ascii "ab%Qc") (5 ∷ 0 ∷ ascii "ab%Qc") none (1 ∷ 0 ∷ bytes_next 5)
    -- two echoes, joined
    ∷ row (ascii "%Q%!") (4 ∷ 0 ∷ ascii "%Q%!") none (1 ∷ 0 ∷ bytes_next 4)
    -- a skipped `E` or `O` is not stored
    ∷ row (ascii "%EY%Od") none (2 ∷ 0 ∷ (plain (byte "Y") ++ plain (byte "d"))) (2 ∷ 0 ∷ (directive_at 0 ++ directive_at 1))
    -- of two letters with one meaning, the table's first
    ∷ row (ascii "%X%x%h") none (3 ∷ 0 ∷ (plain (byte "T") ++ (plain (byte "D") ++ plain (byte "b")))) (3 ∷ 0 ∷ (directive_at 0 ++ (directive_at 1 ++ directive_at 2)))
    -- the offset in its four forms
    ∷ row (ascii "%z%:z%::z%:::z") none (4 ∷ 0 ∷ (plain (byte "z") ++ (plain 1 ++ (plain 2 ++ plain 3)))) (4 ∷ 0 ∷ (directive_at 0 ++ (directive_at 1 ++ (directive_at 2 ++ directive_at 3))))
    -- padding, flags, and widths with the low byte first
    ∷ row (ascii "%-d%_5H,%0300Y%^#2147483647B") (1 ∷ 0 ∷ ascii ",")
    (4 ∷ 0 ∷ (entry (byte "d") 0 1 0 (0 ∷ 0 ∷ 0 ∷ 0 ∷ []) ++ (entry (byte "H") 1 0 1 (5 ∷ 0 ∷ 0 ∷ 0 ∷ []) ++ (entry (byte "Y") 2 0 1 (44 ∷ 1 ∷ 0 ∷ 0 ∷ []) ++ entry (byte "B") 0 6 1 (255 ∷ 255 ∷ 255 ∷ 127 ∷ [])))))
    (5 ∷ 0 ∷ (directive_at 0 ++ (directive_at 1 ++ (bytes_next 1 ++ (directive_at 2 ++ directive_at 3)))))
    -- counts with the low byte first
    ∷ row (replicate 258 (byte "a")) (2 ∷ 1 ∷ replicate 258 (byte "a")) none (1 ∷ 0 ∷ (0 ∷ 2 ∷ 1 ∷ []))
    ∷ []

pub rows_hold : map (λ (r : Row). stored (parts (items r.format))) rows ≡ map (λ (r : Row). r.bytes) rows
unfolding rows stored steps_bytes entries_bytes entry_bytes code_of literals_in pieces_in parts read ending step turn open? on_flag on_letter on_colons member modified look_up possible_specs
rows_hold = refl

-- ## "the next literal bytes": neighbouring texts are one part

unfoldable pub texts_apart : List Part → Bool
texts_apart [] = true
texts_apart (piece p ∷ ps) = texts_apart ps
texts_apart (text bytes ∷ []) = true
texts_apart (text bytes ∷ text more ∷ ps) = false
texts_apart (text bytes ∷ piece p ∷ ps) = texts_apart ps

apart_join : (bytes : List ℕ) (ps : List Part) → texts_apart ps ≡ true → texts_apart (join_text bytes ps) ≡ true
unfolding texts_apart
apart_join bytes [] h = refl
apart_join bytes (text more ∷ []) h = refl
apart_join bytes (text more ∷ text again ∷ ps) h = h
apart_join bytes (text more ∷ piece p ∷ ps) h = h
apart_join bytes (piece p ∷ ps) h = h

pub texts_apart_lem : (is : List Item) → texts_apart (parts is) ≡ true
unfolding parts texts_apart
texts_apart_lem [] = refl
texts_apart_lem (literal b ∷ is) = apart_join (b ∷ []) (parts is) (texts_apart_lem is)
texts_apart_lem (echo bytes ∷ is) = apart_join bytes (parts is) (texts_apart_lem is)
texts_apart_lem (directive p ∷ is) = texts_apart_lem is
texts_apart_lem (cut ∷ is) = texts_apart_lem is
