-- The widths that reading gives (01, "Reading a directive", 2).
use Rattle.std.specs.Prelude.{Option, Some, None}
use mathlib.Core.Path.{◌≡◌, refl, subst}
use mathlib.Core.Bool.{Bool, true, false}
use mathlib.Core.List.{List, Memᴰ}
use Prim.Native.Nat.{ℕ, ◌≤◌}
use native.Mathlib.Omega.{arith}
use borrow.Author.Tests.{ltb-false, eqb-false}
use lib.Dec.{leb, eqb}
use Rattle.rules.specs.declared.Spec.{Spec}
use Rattle.rules.specs.declared.Options.{Options}
use Rattle.rules.specs.declared.Piece.{Piece}
use Rattle.rules.specs.declared.Modifier.{Modifier}
use Rattle.rules.specs.declared.Modifier.TheVariants.{E, O}
use Rattle.rules.specs.declared.Padding.TheVariants.{Zeros}
use Rattle.rules.specs.declared.Reading.{Reading}
use Rattle.rules.specs.declared.Reading.TheVariants.{InFlags, InWidth, AtModifier, InColons}
use Rattle.rules.specs.declared.Turn.{Turn}
use Rattle.rules.specs.declared.Turn.TheVariants.{More, Found, Echoed, Unread}
use Rattle.rules.specs.Ascii.{byte}
use Rattle.rules.specs.Reading.{padded, on_flag, is_digit, too_wide, member, modified, spec_of, on_entry, on_letter, on_colons, turn, open?}
use Rattle.rules.specs.Format.{Item, literal, echo, directive, cut, State, between, inside, Step, fresh, on_turn, step, ending, items}
use Rattle.rules.proofs.RecordLaws.{by_test, ends}
use Rattle.rules.proofs.EachItem.{AllItems, all_member, all_read}

-- ## One byte, by cases

module _ (P : Turn → Type 0) where
  -- what is no flag is no zero
  flag_cases : (o : Options) (b : ℕ) (other : Turn) → ((o' : Options) → P (More (InFlags o'))) → ((b ≡ byte "0" → ⊥) → P other) → P (on_flag o b other)
  unfolding on_flag
  flag_cases o b other flag rest =
      by_test P (eqb b (byte "-")) (λ t. flag _)
      (λ f. by_test P (eqb b (byte "_")) (λ t. flag _)
      (λ f. by_test P (eqb b (byte "0")) (λ t. flag _)
      (λ zero. by_test P (eqb b (byte "^")) (λ t. flag _)
      (λ f. by_test P (eqb b (byte "#")) (λ t. flag _) (λ f. rest (eqb-false b (byte "0") zero))))))

  letter_cases : (o : Options) (w : Option ℕ) (b : ℕ) → P (More (InColons o w 1)) → ((m : Modifier) → P (More (AtModifier o w m))) → P Unread →
      ((e : Option Spec) → P (on_entry o w false e)) → P (on_letter o w b)
  unfolding on_letter
  letter_cases o w b colon modifier unread entry =
      by_test P (eqb b (byte ":")) (λ t. colon)
      (λ f. by_test P (eqb b (byte "E")) (λ t. modifier E)
      (λ f. by_test P (eqb b (byte "O")) (λ t. modifier O)
      (λ f. by_test P (leb 128 b) (λ t. unread) (λ f. entry (spec_of b)))))

-- ## The first digit

-- "zeros are flags"
pub zero_is_a_flag : (o : Options) → turn (InFlags o) (byte "0") ≡ More (InFlags (padded o Zeros))
unfolding turn on_flag
zero_is_a_flag o = refl

-- what is known of a byte that a width starts with
abbrev StartsAt : ℕ → Turn → Type 0
StartsAt b (More (InFlags o)) = Unit {0}
StartsAt b (More (InWidth o w)) = (byte "1" ≤ b) × (b ≤ byte "9")
StartsAt b (More (AtModifier o w m)) = Unit {0}
StartsAt b (More (InColons o w colons)) = Unit {0}
StartsAt b (Found p) = Unit {0}
StartsAt b Echoed = Unit {0}
StartsAt b Unread = Unit {0}

entry_starts : (b : ℕ) (o : Options) (w : Option ℕ) (skipped : Bool) (e : Option Spec) → StartsAt b (on_entry o w skipped e)
entry_starts b o w skipped (Some s) = tt
entry_starts b o w skipped None = tt

-- "A width never starts with 0"
pub width_starts : (o o' : Options) (b w : ℕ) → turn (InFlags o) b ≡ More (InWidth o' w) → (byte "1" ≤ b) × (b ≤ byte "9")
unfolding turn
width_starts o o' b w e =
    subst (StartsAt b) e
    (flag_cases (StartsAt b) o b _ (λ o''. tt)
    (λ no_zero. by_test (StartsAt b) (is_digit b) (λ digit. let d = ends (byte "0") (byte "9") b digit in (omega arith, d.1))
    (λ f. letter_cases (StartsAt b) o None b tt (λ m. tt) tt (entry_starts b o None false))))

-- ## The width

-- none, or one from 1 to 2,147,483,647
abbrev pub WidthOk : Option ℕ → Type 0
WidthOk None = Unit {0}
WidthOk (Some w) = (1 ≤ w) × (w ≤ 2147483647)

abbrev ReadingOk : Reading → Type 0
ReadingOk (InFlags o) = Unit {0}
ReadingOk (InWidth o w) = 1 ≤ w
ReadingOk (AtModifier o w m) = WidthOk w
ReadingOk (InColons o w colons) = WidthOk w

abbrev TurnOk : Turn → Type 0
TurnOk (More r) = ReadingOk r
TurnOk (Found p) = WidthOk p.width
TurnOk Echoed = Unit {0}
TurnOk Unread = Unit {0}

entry_ok : (o : Options) (w : Option ℕ) (skipped : Bool) (e : Option Spec) → WidthOk w → TurnOk (on_entry o w skipped e)
entry_ok o w skipped (Some s) h = h
entry_ok o w skipped None h = tt

letter_ok : (o : Options) (w : Option ℕ) (b : ℕ) → WidthOk w → TurnOk (on_letter o w b)
letter_ok o w b h = letter_cases TurnOk o w b h (λ m. h) tt (λ e. entry_ok o w false e h)

colons_ok : (o : Options) (w : Option ℕ) (colons : ℕ) → WidthOk w → TurnOk (on_colons o w colons)
unfolding on_colons
colons_ok o w colons h =
    by_test TurnOk (eqb colons 1) (λ t. h) (λ f. by_test TurnOk (eqb colons 2) (λ t. h) (λ f. by_test TurnOk (eqb colons 3) (λ t. h) (λ f. tt)))

turn_ok : (r : Reading) (b : ℕ) → ReadingOk r → TurnOk (turn r b)
unfolding turn
turn_ok (InFlags o) b h =
    flag_cases TurnOk o b _ (λ o'. tt)
    (λ no_zero. by_test TurnOk (is_digit b) (λ digit. let d = ends (byte "0") (byte "9") b digit in omega arith) (λ f. letter_ok o None b tt))
turn_ok (InWidth o w) b h =
    by_test TurnOk (is_digit b) (λ digit. omega arith)
    (λ f. by_test TurnOk (too_wide w) (λ t. tt) (λ narrow. letter_ok o (Some w) b (h, ltb-false 2147483647 w narrow)))
turn_ok (AtModifier o w m) b h = by_test TurnOk (member b (modified m)) (λ t. entry_ok o w true (spec_of b) h) (λ f. tt)
turn_ok (InColons o w colons) b h =
    by_test TurnOk (eqb b (byte ":")) (λ t. h) (λ f. by_test TurnOk (eqb b (byte "z")) (λ t. colons_ok o w colons h) (λ f. tt))

-- ## Each item

abbrev pub ItemOk : Item → Type 0
ItemOk (literal b) = Unit {0}
ItemOk (echo text) = Unit {0}
ItemOk (directive p) = WidthOk p.width
ItemOk cut = Unit {0}

abbrev StateOk : State → Type 0
StateOk between = Unit {0}
StateOk (inside r text) = ReadingOk r

abbrev StepOk : Step → Type 0
StepOk s = AllItems ItemOk s.settles × StateOk s.to

fresh_ok : (b : ℕ) → StepOk (fresh b)
fresh_ok b = by_test StepOk (eqb b (byte "%")) (λ t. (tt, tt)) (λ f. ((tt, tt), tt))

step_ok : (state : State) (b : ℕ) → StateOk state → StepOk (step state b)
unfolding step
step_ok between b h = fresh_ok b
step_ok (inside r text) b h = go (turn r b) (turn_ok r b h)
  where
    go : (t : Turn) → TurnOk t → StepOk (on_turn text b t)
    go (More next) k = (tt, k)
    go (Found p) k = ((k, tt), tt)
    go Echoed k = ((tt, tt), tt)
    go Unread k = let f = fresh_ok b in ((tt, f.0), f.1)

end_ok : (state : State) → StateOk state → AllItems ItemOk (ending state)
unfolding ending
end_ok between h = tt
end_ok (inside r text) h = (by_test ItemOk (open? r) (λ t. tt) (λ f. tt), tt)

pub items_ok : (format : List ℕ) → AllItems ItemOk (items format)
items_ok format = all_read ItemOk (λ left state. StateOk state) (λ left state b. step_ok state b) end_ok between format tt

-- "A width never starts with 0 and is never 0, since zeros are flags." Nor is it above 2,147,483,647
pub widths_read : (format : List ℕ) (p : Piece) → Memᴰ (directive p) (items format) → WidthOk p.width
widths_read format p m = all_member ItemOk (items format) (items_ok format) m
