-- A width that is too large, however many digits it has: the directive's text up to there is echoed, and reading goes on behind it.
use mathlib.Core.Path.{◌≡◌, ◌∙◌}
use mathlib.Core.Bool.{true, false}
use mathlib.Core.List.{List, [], ◌∷◌, ◌++◌, append_assoc, append-nil}
use Prim.Native.Nat.{ℕ, ◌+◌, ◌*◌, ◌≤◌, ◌<◌, min}
use native.Mathlib.Omega.{arith}
use borrow.Author.Tests.{lt-ltb, le-leb, ne_eqb}
use Rattle.rules.specs.declared.Options.{Options}
use Rattle.rules.specs.declared.Reading.TheVariants.{InFlags, InWidth}
use Rattle.rules.specs.declared.Turn.TheVariants.{More}
use Rattle.rules.specs.Ascii.{byte}
use Rattle.rules.specs.Reading.{on_flag, is_digit, digit_of, turn, open?}
use Rattle.rules.specs.Format.{echo, between, inside, step, ending, read}

-- the number that a run of digits makes, with the number v before them
abbrev pub number_from : ℕ → List ℕ → ℕ
number_from v [] = v
number_from v (d ∷ ds) = number_from (v * 10 + digit_of d) ds

abbrev pub Digits : List ℕ → Type 0
Digits [] = Unit {0}
Digits (d ∷ ds) = (is_digit d ≡ true) × Digits ds

-- the digits end here
abbrev pub NoDigitNext : List ℕ → Type 0
NoDigitNext [] = Unit {0}
NoDigitNext (b ∷ bytes) = is_digit b ≡ false

echoed_here : (o : Options) (w : ℕ) (text rest : List ℕ) → 2147483647 < w → NoDigitNext rest → read (inside (InWidth o w) text) rest ≡ echo text ∷ read between rest
unfolding read ending step turn open?
echoed_here o w text [] h n = rw (lt-ltb 2147483647 w h)
echoed_here o w text (b ∷ bytes) h n = rw (n, lt-ltb 2147483647 w h)

-- 2,147,483,648 stands for every number that is too large
echoed_within : (o : Options) (v : ℕ) (text ds rest : List ℕ) → Digits ds → 2147483647 < number_from v ds → NoDigitNext rest →
    read (inside (InWidth o (min v 2147483648)) text) (ds ++ rest) ≡ echo (text ++ ds) ∷ read between rest
unfolding read step turn
echoed_within o v text [] rest d h n = rw append-nil (echoed_here o (min v 2147483648) text rest (omega arith) n)
echoed_within o v text (x ∷ ds) rest d h n =
    let e : min (min v 2147483648 * 10 + digit_of x) 2147483648 ≡ min (v * 10 + digit_of x) 2147483648 = omega arith in
    rw (d.0, e) (echoed_within o (v * 10 + digit_of x) (text ++ (x ∷ [])) ds rest d.1 h n ∙ rw append_assoc)

first_digit : (o : Options) (d : ℕ) → byte "1" ≤ d → d ≤ byte "9" → turn (InFlags o) d ≡ More (InWidth o (digit_of d))
unfolding turn on_flag
first_digit o d h k =
    rw (
      ne_eqb d (byte "-") (λ e. omega arith),
      ne_eqb d (byte "_") (λ e. omega arith),
      ne_eqb d (byte "0") (λ e. omega arith),
      ne_eqb d (byte "^") (λ e. omega arith),
      ne_eqb d (byte "#") (λ e. omega arith),
      le-leb (byte "0") d (omega arith),
      le-leb d (byte "9") k,
    )

-- "Above 2,147,483,647, however long: echo."
pub too_wide_is_echoed : (o : Options) (text : List ℕ) (d : ℕ) (ds rest : List ℕ) → byte "1" ≤ d → d ≤ byte "9" → Digits ds → NoDigitNext rest →
    2147483647 < number_from 0 (d ∷ ds) → read (inside (InFlags o) text) ((d ∷ ds) ++ rest) ≡ echo (text ++ (d ∷ ds)) ∷ read between rest
unfolding read step
too_wide_is_echoed o text d ds rest h k a n wide =
    let e : digit_of d ≡ min (0 * 10 + digit_of d) 2147483648 = omega arith in
    rw (first_digit o d h k) (rw e (echoed_within o (0 * 10 + digit_of d) (text ++ (d ∷ [])) ds rest a wide n ∙ rw append_assoc))
