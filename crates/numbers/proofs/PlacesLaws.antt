-- Digits that are written from the last to the first. `out` has been written down to at + left; `left` digits of n are yet to come.
use Rattle.std.specs.Prelude.{◌≡◌, ℕ, suc, ◌+◌, ◌-◌, ◌*◌, ◌/◌, ◌%◌, ◌<◌, ◌≤◌, List, [], ◌∷◌, ◌++◌, length, take, drop, set}
use mathlib.Core.Path.{refl, sym, ap, ◌∙◌, subst, subst₂}
use mathlib.Core.List.{append_assoc}
use native.Mathlib.Omega.{arith}
use lib.ListN.{length-set, take-append-drop}
use lib.Seq.{take-set-le, take-take, drop-cons, get_or-set_same, drop-set-lt}
use Rattle.rules.specs.Decimal.{places}

pub record Written (out₀ out : List ℕ) (at left n : ℕ) (end : List ℕ) : Type 0 where
  pub room : at + left ≤ length out₀
  pub long : length out ≡ length out₀
  pub front : take (at + left) out ≡ take (at + left) out₀
  pub back : places left n ++ drop (at + left) out ≡ end

pub none : (out : List ℕ) (at count v : ℕ) → at + count ≤ length out → Written out out at count v (places count v ++ drop (at + count) out)
none out at count v h = record { room = h; long = refl; front = refl; back = refl }

from : (out : List ℕ) (j d : ℕ) → j < length out → drop j (set out j d) ≡ d ∷ drop (suc j) out
from out j d h =
    let k : j < length (set out j d) = simp length-set h in
    drop-cons (set out j d) j 0 k
    ∙ ap (λ (x : ℕ). x ∷ drop (suc j) (set out j d)) (get_or-set_same out j d 0 h)
    ∙ ap (λ (l : List ℕ). d ∷ l) (drop-set-lt (suc j) out j d (omega arith))

module _ {out₀ out : List ℕ} {at left n : ℕ} {end : List ℕ} where
  step : Written out₀ out at (suc left) n end → Written out₀ (set out (at + left) (48 + n % 10)) at left (n / 10) end
  unfolding places
  step w =
      let j = at + left in
      let d = 48 + n % 10 in
      let e : at + suc left ≡ suc j = omega arith in
      let h : j < length out = omega (arith, w.room, w.long) in
      let f : take (suc j) out ≡ take (suc j) out₀ = subst (λ (k : ℕ). take k out ≡ take k out₀) e w.front in
      record {
        room = omega (arith, w.room);
        long = simp length-set w.long;
        front = take-set-le j out j d (omega arith) ∙ sym (take-take j (suc j) out (omega arith)) ∙ ap (take j) f ∙ take-take j (suc j) out₀ (omega arith);
        back = ap (λ (l : List ℕ). places left (n / 10) ++ l) (from out j d h)
            ∙ sym (append_assoc (places left (n / 10)) (d ∷ []) (drop (suc j) out))
            ∙ ap (λ (k : ℕ). places (suc left) n ++ drop k out) (sym e)
            ∙ w.back;
      }

  -- all are written
  pub all : left ≡ 0 → Written out₀ out at left n end → out ≡ take at out₀ ++ end
  unfolding places
  all z w =
      let e : at + left ≡ at = omega arith in
      let f : take at out ≡ take at out₀ = subst (λ (k : ℕ). take k out ≡ take k out₀) e w.front in
      let b : drop at out ≡ end = ap (λ (k : ℕ). drop k out) (sym e) ∙ ap (λ (k : ℕ). places k n ++ drop (at + left) out) (sym z) ∙ w.back in
      sym (take-append-drop at out) ∙ ap (λ (l : List ℕ). l ++ drop at out) f ∙ ap (λ (l : List ℕ). take at out₀ ++ l) b

-- one digit more
pub one_more : {out₀ out : List ℕ} {at left n j d : ℕ} {end : List ℕ} → 1 ≤ left → j ≡ at + left - 1 → d ≡ 48 + n % 10 → Written out₀ out at left n end
    → Written out₀ (set out j d) at (left - 1) (n / 10) end
one_more {out₀} {out} {at} {left} {n} {j} {d} {end} h p q w =
    let s : left ≡ suc (left - 1) = omega arith in
    let e : at + (left - 1) ≡ j = omega arith in
    subst₂ (λ (k b : ℕ). Written out₀ (set out k b) at (left - 1) (n / 10) end) e (sym q)
    (step (subst (λ (k : ℕ). Written out₀ out at k n end) s w))

-- the digits of n % 100 are the last two of n
ones_of : (n : ℕ) → n % 100 % 10 ≡ n % 10
ones_of n = omega arith

tens_of : (n : ℕ) → n % 100 / 10 ≡ n / 10 % 10
tens_of n = sym (last (n / 100) (n % 100 / 10) (n / 10) (omega arith) (shift n (n / 100) (n % 100) (omega arith)))
  where
    shift : (n q r : ℕ) → n ≡ 100 * q + r → n / 10 ≡ 10 * q + r / 10
    shift n q r e = omega arith

    last : (q x m : ℕ) → x < 10 → m ≡ 10 * q + x → m % 10 ≡ x
    last q x m h e = omega arith

-- two digits more
pub two_more : {out₀ out : List ℕ} {at left n b₁ b₂ : ℕ} {end : List ℕ} → 2 ≤ left → b₁ ≡ 48 + n % 100 % 10 → b₂ ≡ 48 + n % 100 / 10 → Written out₀ out at left n end
    → Written out₀ (set (set out (at + left - 1) b₁) (at + left - 2) b₂) at (left - 2) (n / 100) end
two_more {out₀} {out} {at} {left} {n} {b₁} {b₂} {end} h e₁ e₂ w =
    let s : left - 1 - 1 ≡ left - 2 = omega arith in
    let t : n / 10 / 10 ≡ n / 100 = omega arith in
    subst₂ (λ (l m : ℕ). Written out₀ (set (set out (at + left - 1) b₁) (at + left - 2) b₂) at l m end) s t
    (one_more (omega arith) (omega arith) (e₂ ∙ ap (λ (d : ℕ). 48 + d) (tens_of n))
    (one_more (omega arith) refl (e₁ ∙ ap (λ (d : ℕ). 48 + d) (ones_of n)) w))

-- ## A pair as one number, the tens in its lower byte

module _ {v w : ℕ} (h : v < 100) (e : w ≡ 48 + v / 10 + 256 * (48 + v % 10)) where
  pub tens_byte : w % 256 ≡ 48 + v / 10
  tens_byte = omega arith

  pub ones_byte : w / 256 ≡ 48 + v % 10
  ones_byte = omega arith
