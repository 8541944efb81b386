-- An echo that ends where the bytes so far end is pending exactly if its last byte is `:`, `E`, `O` or a digit; and by positions: where what is
-- pending starts.
use Rattle.std.specs.Prelude.{Option, Some, None}
use mathlib.Core.Path.{◌≡◌, refl, sym, ap, ◌∙◌}
use mathlib.Core.Bool.{Bool, true, false, cond, ◌||◌}
use mathlib.Core.List.{List, [], ◌∷◌, ◌++◌}
use Prim.Native.Nat.{ℕ, suc, ◌+◌, ◌-◌, ◌≤◌, ◌<◌}
use native.Mathlib.Numerals.{add-one}
use native.Mathlib.Omega.{arith}
use lib.Dec.{eqb, leb}
use lib.ListN.{length, take, drop, get_or, length-drop}
use lib.Seq.{drop-cons, drop-drop, take-suc, take_all, get_or-drop}
use borrow.Author.Tests.{eqb-true}
use Rattle.rules.specs.declared.Spec.{Spec}
use Rattle.rules.specs.declared.Options.{Options}
use Rattle.rules.specs.declared.Modifier.{Modifier}
use Rattle.rules.specs.declared.Modifier.TheVariants.{E, O}
use Rattle.rules.specs.declared.Reading.{Reading}
use Rattle.rules.specs.declared.Reading.TheVariants.{InFlags, InWidth, AtModifier, InColons}
use Rattle.rules.specs.declared.Turn.{Turn}
use Rattle.rules.specs.declared.Turn.TheVariants.{More, Found, Echoed, Unread}
use Rattle.rules.specs.declared.Parsed.{Parsed}
use Rattle.rules.specs.declared.Parsed.TheVariants.{Directive, Echo, Cut}
use Rattle.rules.specs.Ascii.{byte}
use Rattle.rules.specs.Reading.{outset, on_flag, is_digit, digit_of, too_wide, member, modified, spec_of, on_entry, on_letter, on_colons, turn, open?}
use Rattle.rules.specs.Format.{between, inside, on_turn, step, after, parsed_by, parse_from}
use Rattle.rules.specs.Runs.{pending_of}

-- the last byte of an echo that a further byte could still change
unfoldable pub waits : ℕ → Bool
waits b = is_digit b || (eqb b (byte ":") || (eqb b (byte "E") || eqb b (byte "O")))

-- ## One byte

either : {A : Type 0} (P : A → Type 0) (t : Bool) {x y : A} → (t ≡ true → P x) → (t ≡ false → P y) → P (cond t x y)
either P true f g = f refl
either P false f g = g refl

-- what the byte b tells of its turn: if it goes on, as an echo where the bytes end here, b waits; if it closes an echo, b doesn't
abbrev pub Tells : ℕ → Turn → Type 0
Tells b (More r) = open? r ≡ false → waits b ≡ true
Tells b (Found p) = Unit {0}
Tells b Echoed = waits b ≡ false
Tells b Unread = Unit {0}

module _ (b : ℕ) where
  waits_digit : is_digit b ≡ true → waits b ≡ true
  unfolding waits
  waits_digit e = rw e

  waits_colon : is_digit b ≡ false → eqb b (byte ":") ≡ true → waits b ≡ true
  unfolding waits
  waits_colon d e = rw (d, e)

  waits_e : is_digit b ≡ false → eqb b (byte ":") ≡ false → eqb b (byte "E") ≡ true → waits b ≡ true
  unfolding waits
  waits_e d c e = rw (d, c, e)

  waits_o : is_digit b ≡ false → eqb b (byte ":") ≡ false → eqb b (byte "E") ≡ false → eqb b (byte "O") ≡ true → waits b ≡ true
  unfolding waits
  waits_o d c e o = rw (d, c, e, o)

  waits_none : is_digit b ≡ false → eqb b (byte ":") ≡ false → eqb b (byte "E") ≡ false → eqb b (byte "O") ≡ false → waits b ≡ false
  unfolding waits
  waits_none d c e o = rw (d, c, e, o)

  tells_entry : (o : Options) (w : Option ℕ) (skipped : Bool) (x : Option Spec) → waits b ≡ false → Tells b (on_entry o w skipped x)
  tells_entry o w skipped (Some s) h = tt
  tells_entry o w skipped None h = h

  tells_letter : (o : Options) (w : Option ℕ) → is_digit b ≡ false → Tells b (on_letter o w b)
  unfolding on_letter
  tells_letter o w d =
      either (Tells b) (eqb b (byte ":")) (λ c q. waits_colon d c)
      (λ c. either (Tells b) (eqb b (byte "E")) (λ e q. waits_e d c e)
      (λ e. either (Tells b) (eqb b (byte "O")) (λ f q. waits_o d c e f)
      (λ f. either (Tells b) (leb 128 b) (λ h. tt) (λ h. tells_entry o w false (spec_of b) (waits_none d c e f)))))

  never : true ≡ false → waits b ≡ true
  never q = let z : ◌≡◌ {A = ℕ} 0 1 = cc in absurd (omega arith)

  tells_flag : (o : Options) (other : Turn) → Tells b other → Tells b (on_flag o b other)
  unfolding on_flag open?
  tells_flag o other h =
      either (Tells b) (eqb b (byte "-")) (λ e. never)
      (λ e. either (Tells b) (eqb b (byte "_")) (λ e. never)
      (λ e. either (Tells b) (eqb b (byte "0")) (λ e. never)
      (λ e. either (Tells b) (eqb b (byte "^")) (λ e. never)
      (λ e. either (Tells b) (eqb b (byte "#")) (λ e. never) (λ e. h)))))

  -- no letter of the tables for `E` and `O` waits
  abbrev NoneWaits : List ℕ → Type 0
  NoneWaits [] = Unit {0}
  NoneWaits (x ∷ xs) = (waits x ≡ false) × NoneWaits xs

  member_quiet : (xs : List ℕ) → NoneWaits xs → member b xs ≡ true → waits b ≡ false
  unfolding member
  member_quiet [] h e = let z : ◌≡◌ {A = ℕ} 0 1 = cc in absurd (omega arith)
  member_quiet (x ∷ xs) h e = go (eqb b x) refl e (member_quiet xs h.1)
    where
      go : (t : Bool) → eqb b x ≡ t → cond t true (member b xs) ≡ true → (member b xs ≡ true → waits b ≡ false) → waits b ≡ false
      go true q r rest = ap waits (eqb-true b x q) ∙ h.0
      go false q r rest = rest r

  tables_quiet : (m : Modifier) → NoneWaits (modified m)
  unfolding modified waits
  tables_quiet E = (refl, (refl, (refl, (refl, (refl, (refl, tt))))))
  tables_quiet O = (refl, (refl, (refl, (refl, (refl, (refl, (refl, (refl, (refl, (refl, (refl, (refl, (refl, (refl, (refl, tt)))))))))))))))

  tells_colons : (o : Options) (w : Option ℕ) (colons : ℕ) → waits b ≡ false → Tells b (on_colons o w colons)
  unfolding on_colons
  tells_colons o w colons h =
      either (Tells b) (eqb colons 1) (λ e. tt) (λ e. either (Tells b) (eqb colons 2) (λ e. tt) (λ e. either (Tells b) (eqb colons 3) (λ e. tt) (λ e. h)))

  z_quiet : eqb b (byte "z") ≡ true → waits b ≡ false
  unfolding waits
  z_quiet e = rw (eqb-true b (byte "z") e)

  colon_waits : eqb b (byte ":") ≡ true → waits b ≡ true
  unfolding waits
  colon_waits e = rw (eqb-true b (byte ":") e)

  pub tells : (r : Reading) → Tells b (turn r b)
  unfolding turn
  tells (InFlags o) =
      tells_flag o (cond (is_digit b) (More (InWidth o (digit_of b))) (on_letter o None b))
      (either (Tells b) (is_digit b) (λ d q. waits_digit d) (λ d. tells_letter o None d))
  tells (InWidth o width) =
      either (Tells b) (is_digit b) (λ d q. waits_digit d) (λ d. either (Tells b) (too_wide width) (λ e. tt) (λ e. tells_letter o (Some width) d))
  tells (AtModifier o w m) =
      either (Tells b) (member b (modified m)) (λ e. tells_entry o w true (spec_of b) (member_quiet (modified m) (tables_quiet m) e)) (λ e. tt)
  tells (InColons o w colons) =
      either (Tells b) (eqb b (byte ":")) (λ e q. colon_waits e) (λ e. either (Tells b) (eqb b (byte "z")) (λ f. tells_colons o w colons (z_quiet f)) (λ f. tt))

-- ## By positions

module _ (format : List ℕ) (i : ℕ) where
  -- what is pending after the bytes from i on is what is pending after those from `next` on
  abbrev pub Passes : ℕ → Type 0
  Passes next = after between (drop i format) ≡ after between (drop next format)

  -- the bytes from i on are all pending
  abbrev pub Pends : Type 0
  Pends = pending_of (after between (drop i format)) ≡ drop i format

  -- by what is parsed after the percent sign at i: an echo that ends before the last byte is closed, one that ends with it is told by that byte
  abbrev pub Leaves : Parsed → Type 0
  Leaves (Directive p next) = Passes next
  Leaves (Echo next) =
      (next < length format → Passes next)
      × ((waits (get_or format (next - 1) 0) ≡ false → Passes next)
      × (length format ≤ next → waits (get_or format (next - 1) 0) ≡ true → Pends))
  Leaves Cut = Pends

  clash : {A : Type 0} {t : Bool} → t ≡ true → t ≡ false → A
  clash p q = let z : ◌≡◌ {A = ℕ} 0 1 = cc in absurd (omega arith)

  leaves_from : (bytes : List ℕ) (r : Reading) (at : ℕ) (text : List ℕ) → i < at → at ≤ length format → drop at format ≡ bytes → text ≡ take (at - i) (drop i format) →
      after between (drop i format) ≡ after (inside r text) bytes → (open? r ≡ false → waits (get_or format (at - 1) 0) ≡ true) → Leaves (parse_from r at bytes)
  unfolding parse_from after step
  leaves_from [] r at text h f e t a w = go (open? r) w
    where
      end : at ≡ length format
      end = omega (arith, ap length e, length-drop at format)

      pends : Pends
      pends = ap pending_of a ∙ t ∙ take_all (at - i) (drop i format) (omega (arith, length-drop i format, end))

      go : (o : Bool) → (o ≡ false → waits (get_or format (at - 1) 0) ≡ true) → Leaves (cond o Cut (Echo at))
      go true k = pends
      go false k = ((λ x. absurd (omega (arith, end))), ((λ x. clash (k refl) x), (λ x y. pends)))
  leaves_from (b ∷ bytes) r at text h f e t a w =
      go (turn r b) (tells b r) a (λ next. leaves_from bytes next (at + 1) (text ++ (b ∷ [])) (omega arith) (omega (arith, there)) onward longer)
    where
      there : at < length format
      there = omega (arith, ap length e, length-drop at format)

      onward : drop (at + 1) format ≡ bytes
      onward = sym (drop-drop 1 at format) ∙ ap (drop 1) e

      here : get_or format at 0 ≡ b
      here = let k : at + 0 ≡ at = omega arith in sym (get_or-drop at format 0 0 ∙ ap (λ (j : ℕ). get_or format j 0) k) ∙ ap (λ (l : List ℕ). get_or l 0 0) e

      longer : text ++ (b ∷ []) ≡ take (at + 1 - i) (drop i format)
      longer =
          let k : at + 1 - i ≡ suc (at - i) = omega arith in
          let j : i + (at - i) ≡ at = omega arith in
          let g : get_or (drop i format) (at - i) 0 ≡ b = get_or-drop i format (at - i) 0 ∙ ap (λ (m : ℕ). get_or format m 0) j ∙ here in
          sym (rw k (take-suc (drop i format) (at - i) 0 (omega (arith, length-drop i format, there)) ∙ rw (g, t)))

      last : get_or format (at + 1 - 1) 0 ≡ b
      last = let k : at + 1 - 1 ≡ at = omega arith in rw k here

      go : (x : Turn) → Tells b x → after between (drop i format) ≡ after (on_turn text b x).to bytes →
          ((next : Reading) → after between (drop i format) ≡ after (inside next (text ++ (b ∷ []))) bytes → (open? next ≡ false → waits (get_or format (at + 1 - 1) 0) ≡ true) → Leaves (parse_from next (at + 1) bytes)) →
          Leaves (parsed_by x at (λ next. parse_from next (at + 1) bytes))
      go (More next) k a' ih = ih next a' (λ o. ap waits last ∙ k o)
      go (Found p) k a' ih = rw onward a'
      go Echoed k a' ih = let z : Passes (at + 1) = rw onward a' in ((λ x. z), ((λ x. z), (λ x y. clash y (ap waits last ∙ k))))
      go Unread k a' ih = let z : Passes at = rw e a' in ((λ x. z), ((λ x. z), (λ x y. absurd (omega (arith, there)))))

  pub leaves : i < length format → get_or format i 0 ≡ byte "%" → (x : Parsed) → parse_from (InFlags outset) (i + 1) (drop (i + 1) format) ≡ x → Leaves x
  unfolding after step open?
  leaves h e x k =
      rw k at (leaves_from (drop (i + 1) format) (InFlags outset) (i + 1) (byte "%" ∷ []) (omega arith) (omega arith) refl first (ap (after between) all) (λ o. clash refl o))
    where
      all : drop i format ≡ byte "%" ∷ drop (i + 1) format
      all = rw (add-one, ← e) (drop-cons format i 0 h)

      first : byte "%" ∷ [] ≡ take (i + 1 - i) (drop i format)
      first = let j : i + 1 - i ≡ 1 = omega arith in rw (j, all)
