-- Which 8 bytes are taken as a directive: exactly those that say one which some format is parsed to.
use Rattle.std.specs.Prelude.{Option, Some, None}
use mathlib.Core.Path.{◌≡◌, refl, sym, ap, subst, ◌∙◌}
use mathlib.Core.Bool.{Bool, true, false, cond, ◌&&◌}
use mathlib.Core.List.{List, [], ◌∷◌, ◌++◌, append_assoc}
use mathlib.Core.Logic.{◌↔◌}
use Prim.Native.Nat.{ℕ, zero, suc, ◌+◌, ◌*◌, ◌-◌, ◌/◌, ◌%◌, ◌≤◌, ◌<◌, min}
use native.Mathlib.Decide.{dec_lt}
use native.Mathlib.Omega.{arith}
use lib.Dec.{leb, eqb}
use lib.ListN.{get_or, drop}
use lib.Seq.{drop-drop}
use borrow.Author.Tests.{eqb-true, leb-true, ne_eqb, le-leb}
use Rattle.rules.specs.declared.Offset.TheVariants.{TimeZoneOffsetHourMinuteColon, TimeZoneOffsetHourMinuteSecondColon, TimeZoneOffsetColonMinimal}
use Rattle.rules.specs.declared.Spec.{Spec}
use Rattle.rules.specs.declared.Spec.TheVariants.{Offset as offset}
use Rattle.rules.specs.declared.Padding.{Padding}
use Rattle.rules.specs.declared.Padding.TheVariants.{Left, Spaces, Zeros}
use Rattle.rules.specs.declared.Piece.{Piece}
use Rattle.rules.specs.declared.Options.{Options}
use Rattle.rules.specs.declared.Reading.{Reading}
use Rattle.rules.specs.declared.Reading.TheVariants.{InFlags, InWidth, InColons}
use Rattle.rules.specs.declared.Turn.{Turn}
use Rattle.rules.specs.declared.Turn.TheVariants.{More, Found}
use Rattle.rules.specs.Ascii.{byte}
use Rattle.rules.specs.Reading.{outset, on_flag, is_digit, width_with, piece_of, on_letter, on_colons, turn}
use Rattle.rules.specs.Format.{directive, inside, on_turn, step, ending, read, items}
use Rattle.rules.specs.Stored.{four_of, code_of, coded_spec, padding_code, flags_code, present, width_value, spec_from, padding_from, flags_from, entry_of, is_known, width_taken, entry_taken, entries_taken, Codes, Parsing}
use Rattle.rules.proofs.RecordLaws.{by_test, both, together}
use Rattle.rules.proofs.WidthsRead.{WidthOk, items_ok}
use Rattle.rules.proofs.LetterLaws.{behind, narrow, letter_ends}
use Rattle.rules.proofs.StoredEntries.{Given, spec_back, padding_back, flags_back, width_taken_lem}

-- ## Bytes of a directive, one after the other

-- from one place in a directive some bytes lead to another
record Leads (r : Reading) (bytes : List ℕ) (n : Reading) : Type 0 where
  before : (t x : List ℕ) → (t' : List ℕ) × (read (inside r t) (bytes ++ x) ≡ read (inside n t') x)

none : {r : Reading} → Leads r [] r
none = record { before = λ t x. (t, refl) }

one : {r n : Reading} (b : ℕ) → turn r b ≡ More n → Leads r (b ∷ []) n
unfolding read step
one b e = record { before = λ t x. (t ++ (b ∷ []), ap (λ (u : Turn). (on_turn t b u).settles ++ read (on_turn t b u).to x) e) }

infixr 60 ◌on◌
◌on◌ : {r m n : Reading} {a b : List ℕ} → Leads r a m → Leads m b n → Leads r (a ++ b) n
◌on◌ {r} {a = a} {b} p q =
    record {
      before = λ t x.
          let u = p.before t (b ++ x) in
          let v = q.before u.0 x in
          (v.0, ap (read (inside r t)) (append_assoc a b x) ∙ u.1 ∙ v.1);
    }

-- and a last byte finds the directive
finds : {r n : Reading} {p : Piece} {bytes : List ℕ} (b : ℕ) → Leads r bytes n → turn n b ≡ Found p → (t : List ℕ) → read (inside r t) (bytes ++ (b ∷ [])) ≡ directive p ∷ []
unfolding read step ending
finds b f e t = let u = f.before t (b ∷ []) in u.1 ∙ ap (λ (x : Turn). (on_turn u.0 b x).settles ++ read (on_turn u.0 b x).to []) e

-- ## Flags

abbrev options : Padding → Bool → Bool → Bool → Options
options d l c u = record { padding = d; flags = record { left = l; change = c; upper = u } }

left_read : (l : Bool) → Leads (InFlags outset) (cond l (byte "-" ∷ []) []) (InFlags (options Left l false false))
unfolding turn on_flag
left_read true = one (byte "-") refl
left_read false = none

change_read : (l c : Bool) → Leads (InFlags (options Left l false false)) (cond c (byte "#" ∷ []) []) (InFlags (options Left l c false))
unfolding turn on_flag
change_read l true = one (byte "#") refl
change_read l false = none

upper_read : (l c u : Bool) → Leads (InFlags (options Left l c false)) (cond u (byte "^" ∷ []) []) (InFlags (options Left l c u))
unfolding turn on_flag
upper_read l c true = one (byte "^") refl
upper_read l c false = none

abbrev pad_bytes : Padding → List ℕ
pad_bytes Left = []
pad_bytes Spaces = byte "_" ∷ []
pad_bytes Zeros = byte "0" ∷ []

padding_read : (d : Padding) (l c u : Bool) → Leads (InFlags (options Left l c u)) (pad_bytes d) (InFlags (options d l c u))
unfolding turn on_flag
padding_read Left l c u = none
padding_read Spaces l c u = one (byte "_") refl
padding_read Zeros l c u = one (byte "0") refl

flags_read : (d : Padding) (l c u : Bool) → (bytes : List ℕ) × Leads (InFlags outset) bytes (InFlags (options d l c u))
flags_read d l c u = (_, left_read l on change_read l c on upper_read l c u on padding_read d l c u)

-- ## The width

digit_is : (d : ℕ) → d < 10 → is_digit (48 + d) ≡ true
digit_is d h = together (le-leb 48 (48 + d) (omega arith)) (le-leb (48 + d) 57 (omega arith))

no_flag : (o : Options) (d : ℕ) (other : Turn) → 1 ≤ d → d < 10 → on_flag o (48 + d) other ≡ other
unfolding on_flag
no_flag o d other h k =
    simp (ne_eqb (48 + d) 45 (λ e. omega arith), ne_eqb (48 + d) 95 (λ e. omega arith), ne_eqb (48 + d) 48 (λ e. omega arith), ne_eqb (48 + d) 94 (λ e. omega arith), ne_eqb (48 + d) 35 (λ e. omega arith))

first_digit : (o : Options) (d : ℕ) → 1 ≤ d → d < 10 → turn (InFlags o) (48 + d) ≡ More (InWidth o d)
unfolding turn
first_digit o d h k =
    no_flag o d _ h k ∙ ap (λ (t : Bool). cond t (More (InWidth o (48 + d - 48))) (on_letter o None (48 + d))) (digit_is d k) ∙ ap (λ (v : ℕ). More (InWidth o v)) (omega arith)

next_digit : (o : Options) (v w d : ℕ) → d < 10 → w ≡ v * 10 + d → w ≤ 2147483647 → turn (InWidth o v) (48 + d) ≡ More (InWidth o w)
unfolding turn
next_digit o v w d k e h = let q : width_with v (48 + d) ≡ w = omega arith in rw (digit_is d k, q)

digits_read : (o : Options) (fuel w : ℕ) → w < fuel → 1 ≤ w → w ≤ 2147483647 → (bytes : List ℕ) × Leads (InFlags o) bytes (InWidth o w)
digits_read o zero w f h k = absurd (omega arith)
digits_read o (suc fuel) w f h k =
    elim (dec_lt w 10) [
      | yes l ↦ ((48 + w) ∷ [], one (48 + w) (first_digit o w h l))
      | no l ↦
          let i = digits_read o fuel (w / 10) (omega arith) (omega arith) (omega arith) in
          (i.0 ++ ((48 + w % 10) ∷ []), i.1 on one (48 + w % 10) (next_digit o (w / 10) w (w % 10) (omega arith) (omega arith) k))
    ]

width_read : (o : Options) (w : Option ℕ) → WidthOk w → (bytes : List ℕ) × Leads (InFlags o) bytes (behind o w)
width_read o None h = ([], none)
width_read o (Some w) h = digits_read o (suc w) w (omega arith) h.0 h.1

-- ## The letter or the form

-- bytes that end a directive after its flags and width
abbrev Ends : Options → Option ℕ → Spec → Type 0
Ends o w s = (bytes : List ℕ) × ((t : List ℕ) → read (inside (behind o w) t) bytes ≡ directive (piece_of o w false s) ∷ [])

module _ (o : Options) (w : Option ℕ) (h : WidthOk w) where
  colon : turn (behind o w) (byte ":") ≡ More (InColons o w 1)
  unfolding turn on_flag on_letter
  colon = go w h
    where
      go : (w : Option ℕ) → WidthOk w → turn (behind o w) (byte ":") ≡ More (InColons o w 1)
      go None h = refl
      go (Some v) h = rw (narrow v h)

  colon_on : (n : ℕ) → turn (InColons o w n) (byte ":") ≡ More (InColons o w (min (n + 1) 4))
  unfolding turn
  colon_on n = refl

  form_ends : (bytes : List ℕ) (n : ℕ) (s : Spec) → Leads (behind o w) bytes (InColons o w n) → on_colons o w n ≡ Found (piece_of o w false s) → Ends o w s
  unfolding turn
  form_ends bytes n s f e = (bytes ++ (byte "z" ∷ []), finds (byte "z") f e)

  one_colon : Leads (behind o w) (byte ":" ∷ []) (InColons o w 1)
  one_colon = one (byte ":") colon

  two_colons : Leads (behind o w) (byte ":" ∷ byte ":" ∷ []) (InColons o w 2)
  two_colons = one_colon on one (byte ":") (colon_on 1)

  three_colons : Leads (behind o w) (byte ":" ∷ byte ":" ∷ byte ":" ∷ []) (InColons o w 3)
  three_colons = two_colons on one (byte ":") (colon_on 2)

  same_ends : {s s' : Spec} → Ends o w s → Some s ≡ Some s' → Ends o w s'
  same_ends {s} {s'} x e = let q : s ≡ s' = cc in subst (Ends o w) q x

  ends_with : (s : Spec) → Ends o w s
  unfolding coded_spec on_colons
  ends_with s =
      by_test (λ (e : Option Spec). e ≡ Some s → Ends o w s) (eqb (code_of s) 1) (λ t. same_ends (form_ends _ 1 (offset TimeZoneOffsetHourMinuteColon) one_colon refl))
      (λ f. by_test (λ (e : Option Spec). e ≡ Some s → Ends o w s) (eqb (code_of s) 2) (λ t. same_ends (form_ends _ 2 (offset TimeZoneOffsetHourMinuteSecondColon) two_colons refl))
      (λ f. by_test (λ (e : Option Spec). e ≡ Some s → Ends o w s) (eqb (code_of s) 3) (λ t. same_ends (form_ends _ 3 (offset TimeZoneOffsetColonMinimal) three_colons refl))
      (λ f e. (code_of s ∷ [], finds (code_of s) none (letter_ends o w h (code_of s) s e)))))
      (spec_back s)

-- ## Every directive that can be stored is given by a parse

open_read : (x : List ℕ) → items (byte "%" ∷ x) ≡ read (inside (InFlags outset) (byte "%" ∷ [])) x
unfolding read step
open_read x = refl

pub parse_gives : (p : Piece) → Given p → (format : List ℕ) × (items format ≡ directive p ∷ [])
parse_gives p g =
    let o : Options = record { padding = p.padding; flags = p.flags } in
    let f = flags_read p.padding p.flags.left p.flags.change p.flags.upper in
    let w = width_read o p.width g.width in
    let e = ends_with o p.width g.width p.spec in
    let a = f.1.before (byte "%" ∷ []) (w.0 ++ e.0) in
    let b = w.1.before a.0 e.0 in
    (byte "%" ∷ (f.0 ++ (w.0 ++ e.0)), open_read (f.0 ++ (w.0 ++ e.0)) ∙ a.1 ∙ b.1 ∙ e.1 b.0 ∙ same p g.unskipped)
  where
    same : (p : Piece) → p.skipped ≡ false → directive (piece_of (record { padding = p.padding; flags = p.flags }) p.width false p.spec) ∷ [] ≡ directive p ∷ []
    same p h = rw (← h)

-- ## What is taken says such a directive

known_is : (e : Option Spec) → is_known e ≡ true → e ≡ Some (spec_from e)
known_is (Some s) h = refl
known_is None h = let z : ◌≡◌ {A = ℕ} 0 1 = cc in absurd (omega arith)

padding_only : (n : ℕ) → n ≤ 2 → n ≡ padding_code (padding_from n)
padding_only zero h = refl
padding_only (suc zero) h = refl
padding_only (suc (suc zero)) h = refl
padding_only (suc (suc (suc n))) h = absurd (omega arith)

flags_only : (n : ℕ) → n ≤ 7 → n ≡ flags_code (flags_from n)
flags_only zero h = refl
flags_only (suc zero) h = refl
flags_only (suc (suc zero)) h = refl
flags_only (suc (suc (suc zero))) h = refl
flags_only (suc (suc (suc (suc zero)))) h = refl
flags_only (suc (suc (suc (suc (suc zero))))) h = refl
flags_only (suc (suc (suc (suc (suc (suc zero)))))) h = refl
flags_only (suc (suc (suc (suc (suc (suc (suc zero))))))) h = refl
flags_only (suc (suc (suc (suc (suc (suc (suc (suc n)))))))) h = absurd (omega arith)

width_only : (there value : ℕ) → width_taken there value ≡ true → (t : Bool) → eqb there 0 ≡ t →
    (there ≡ present (cond t None (Some value))) × (value ≡ width_value (cond t None (Some value))) × WidthOk (cond t None (Some value))
width_only there value g true e = (eqb-true there 0 e, eqb-true value 0 (rw e at g), tt)
width_only there value g false e =
    let k = both (eqb there 1) (leb 1 value && leb value 2147483647) (rw e at g) in
    let l = both (leb 1 value) (leb value 2147483647) k.1 in
    (eqb-true there 1 k.0, refl, (leb-true 1 value l.0, leb-true value 2147483647 l.1))

module _ (s : List ℕ) (g : entry_taken s ≡ true) where
  tests : (is_known (coded_spec (get_or s 0 0)) ≡ true) × ((leb (get_or s 1 0) 2 ≡ true) × ((leb (get_or s 2 0) 7 ≡ true) × (width_taken (get_or s 3 0) (four_of (drop 4 s)) ≡ true)))
  unfolding entry_taken
  tests =
      let a = both (is_known (coded_spec (get_or s 0 0))) _ g in
      let b = both (leb (get_or s 1 0) 2) _ a.1 in
      let c = both (leb (get_or s 2 0) 7) _ b.1 in
      (a.0, (b.0, (c.0, c.1)))

  taken_given : Given (entry_of s)
  unfolding entry_of
  taken_given = record { width = (width_only (get_or s 3 0) (four_of (drop 4 s)) tests.1.1.1 (eqb (get_or s 3 0) 0) refl).2; unskipped = refl }

  taken_codes : Codes s (entry_of s)
  unfolding entry_of
  taken_codes =
      let w = width_only (get_or s 3 0) (four_of (drop 4 s)) tests.1.1.1 (eqb (get_or s 3 0) 0) refl in
      record {
        letter = known_is (coded_spec (get_or s 0 0)) tests.0;
        padding = padding_only (get_or s 1 0) (leb-true (get_or s 1 0) 2 tests.1.0);
        flags = flags_only (get_or s 2 0) (leb-true (get_or s 2 0) 7 tests.1.1.0);
        there = w.0;
        width = w.1;
      }

codes_taken : (s : List ℕ) (p : Piece) → Codes s p → WidthOk p.width → entry_taken s ≡ true
unfolding entry_taken
codes_taken s p c h =
    rw (c.letter, c.padding, c.flags, c.there, c.width)
    (together (padding_back p.padding).1 (together (flags_back p.flags.left p.flags.change p.flags.upper).1 (width_taken_lem p.width h)))

-- 8 bytes are taken exactly if some format is parsed to what they say
pub taken_parses : (s : List ℕ) → entry_taken s ≡ true → Parsing s
taken_parses s g = let f = parse_gives (entry_of s) (taken_given s g) in record { piece = entry_of s; codes = taken_codes s g; format = f.0; parsed = f.1 }

pub parses_taken : (s : List ℕ) → Parsing s → entry_taken s ≡ true
parses_taken s x = codes_taken s x.piece x.codes (rw x.parsed at (items_ok x.format)).0

-- so are n times 8
eight_on : (i : ℕ) (s : List ℕ) → drop (i * 8) (drop 8 s) ≡ drop (suc i * 8) s
eight_on i s = let e : 8 + i * 8 ≡ suc i * 8 = omega arith in drop-drop (i * 8) 8 s ∙ ap (λ (k : ℕ). drop k s) e

entries_parse : (n : ℕ) (s : List ℕ) → entries_taken n s ≡ true → (i : ℕ) → i < n → Parsing (drop (i * 8) s)
unfolding entries_taken
entries_parse zero s g i h = absurd (omega arith)
entries_parse (suc n) s g zero h = taken_parses s (both (entry_taken s) (entries_taken n (drop 8 s)) g).0
entries_parse (suc n) s g (suc i) h =
    subst Parsing (eight_on i s) (entries_parse n (drop 8 s) (both (entry_taken s) (entries_taken n (drop 8 s)) g).1 i (omega arith))

parse_entries : (n : ℕ) (s : List ℕ) → ((i : ℕ) → i < n → Parsing (drop (i * 8) s)) → entries_taken n s ≡ true
unfolding entries_taken
parse_entries zero s f = refl
parse_entries (suc n) s f =
    together (parses_taken s (f 0 (omega arith))) (parse_entries n (drop 8 s) (λ i h. subst Parsing (sym (eight_on i s)) (f (suc i) (omega arith))))

pub entries_exactly : (n : ℕ) (s : List ℕ) → (entries_taken n s ≡ true) ↔ ((i : ℕ) → i < n → Parsing (drop (i * 8) s))
entries_exactly n s = (entries_parse n s, parse_entries n s)
