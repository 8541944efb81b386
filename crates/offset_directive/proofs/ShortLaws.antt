-- The quick way: a sign, two digits of hours and the rest in one write are the sign, the pad, the hours and the rest.
use mathlib.Core.Path.{◌≡◌, refl, sym, ap, ◌∙◌}
use mathlib.Core.Bool.{Bool, true, false, not, cond, ◌&&◌, ◌||◌, false≢true}
use mathlib.Core.List.{List, [], ◌∷◌, ◌++◌, append_assoc, map}
use Prim.Native.Nat.{ℕ, ◌+◌, ◌-◌, ◌≤◌, ◌<◌}
use native.Mathlib.Decide.{dec_lt}
use native.Mathlib.Omega.{arith}
use lib.Dec.{ltb}
use lib.ListN.{replicate}
use borrow.Author.Tests.{lt-ltb, le-ltb, ltb-true, ltb-false}
use Rattle.rules.specs.Decimal.{digits, digit_count, two}
use Rattle.rules.specs.Event.{put, pad, write}
use Rattle.rules.specs.Offset.{Form, extra, length_of_form, sign_of, sign_and_pad}
use Rattle.rules.proofs.DecimalLaws.{count_pos, count_small, count_is, places_padded}
use Rattle.offset.specs.declared.OffsetParts.{OffsetParts}
use Rattle.text.specs.Ran.{Ran}
use Rattle.text.proofs.RanLaws.{same_events, said, parted, pad_after}
use Rattle.printing.specs.FillWith.{fill_with}
use Rattle.offset_directive.specs.Parts.{parts_text, parts_writes}
use Rattle.offset_directive.specs.Short.{is_short}

-- ## What the test tells

told : (a b c : Bool) → (not (a || b) && c) ≡ true → (a ≡ false) × (b ≡ false) × (c ≡ true)
told true b c e = absurd (false≢true e)
told false true c e = absurd (false≢true e)
told false false c e = (refl, refl, e)

pub record Short (width length : ℕ) (spaces negative : Bool) (hours : ℕ) : Type 0 where
  pub zero_fill : spaces ≡ false
  pub narrow : width ≤ length
  pub below : hours < cond negative 10 100

pub short_is : (width length : ℕ) (spaces negative : Bool) (hours : ℕ) {short : Bool} → short ≡ is_short width length spaces negative hours → short ≡ true → Short width length spaces negative hours
short_is width length spaces negative hours e t =
    let k = told spaces (ltb length width) (ltb hours (cond negative 10 100)) (sym e ∙ t) in
    record { zero_fill = k.0; narrow = ltb-false length width k.1; below = ltb-true hours (cond negative 10 100) k.2 }

-- ## Two places of hours

hundred : (negative : Bool) (hours : ℕ) → hours < cond negative 10 100 → hours < 100
hundred true hours h = omega arith
hundred false hours h = h

pub below_hundred : {width length : ℕ} {spaces negative : Bool} {hours : ℕ} → Short width length spaces negative hours → hours < 100
below_hundred {negative = negative} {hours} short = hundred negative hours short.below

two_counted : (hours : ℕ) → 10 ≤ hours → hours < 100 → digit_count hours ≡ 2
two_counted hours h k = count_is 1 hours h k

-- one digit gets the extra place; two digits without a minus sign get none
places_left : (negative : Bool) (hours : ℕ) → hours < cond negative 10 100 → extra negative hours + digit_count hours ≡ 2
unfolding extra
places_left true hours h = omega (arith, count_small hours h)
places_left false hours h =
    elim (dec_lt hours 10) [
      | yes k ↦ rw (lt-ltb hours 10 k) (omega (arith, count_small hours k))
      | no k ↦ let g : 10 ≤ hours = omega arith in rw (le-ltb hours 10 g) (omega (arith, two_counted hours g h))
    ]

two_padded : (hours k : ℕ) → k + digit_count hours ≡ 2 → two hours ≡ replicate k 48 ++ digits hours
two_padded hours k e =
    let f : 2 - digit_count hours ≡ k = omega arith in
    places_padded 2 hours (omega arith) ∙ ap (λ (j : ℕ). replicate j 48 ++ digits hours) f

-- ## The writes

one_zero_pad : {limit room k : ℕ} (s d t : List ℕ) {l l' : List ℕ} {n n' : ℕ} → room + k ≤ limit → Ran limit room (write (put (s ++ ((replicate k 48 ++ d) ++ t))) ∷ []) l n l' n' → Ran limit room (write (put s) ∷ write (pad 48 k) ∷ write (put (d ++ t)) ∷ []) l n l' n'
one_zero_pad {k = k} s d t h w =
    let e : s ++ ((replicate k 48 ++ d) ++ t) ≡ (s ++ replicate k 48) ++ (d ++ t) = simp append_assoc in
    pad_after (λ some. h) (parted {a = s} {b = replicate k 48} (parted {a = s ++ replicate k 48} {b = d ++ t} (said e w)))

module _ (form : Form) (width : ℕ) (spaces : Bool) (p : OffsetParts) {length : ℕ} (told : length ≡ length_of_form form) (short : Short width length spaces p.minus p.hours) where
  events : write (put (sign_of p.minus)) ∷ write (pad 48 p.extra) ∷ write (put (digits p.hours ++ parts_text form p.minute p.second)) ∷ [] ≡ map write (parts_writes form (fill_with (not spaces)) width p)
  unfolding parts_writes sign_and_pad
  events =
      let k : p.extra ≡ width - length_of_form form + p.extra = omega (arith, short.narrow) in
      rw short.zero_fill (ap (λ (j : ℕ). write (put (sign_of p.minus)) ∷ write (pad 48 j) ∷ write (put (digits p.hours ++ parts_text form p.minute p.second)) ∷ []) k)

  pub short_run : {limit room : ℕ} → p.extra ≡ extra p.minus p.hours → room < limit → {l l' : List ℕ} {n n' : ℕ} → Ran limit room (write (put (sign_of p.minus ++ (two p.hours ++ parts_text form p.minute p.second))) ∷ []) l n l' n' → Ran limit room (map write (parts_writes form (fill_with (not spaces)) width p)) l n l' n'
  short_run place h w =
      let e : p.extra + digit_count p.hours ≡ 2 = ap (λ (j : ℕ). j + digit_count p.hours) place ∙ places_left p.minus p.hours short.below in
      same_events events
      (one_zero_pad (sign_of p.minus) (digits p.hours) (parts_text form p.minute p.second) (omega (arith, count_pos p.hours))
      (said (ap (λ (x : List ℕ). sign_of p.minus ++ (x ++ parts_text form p.minute p.second)) (two_padded p.hours p.extra e)) w))
