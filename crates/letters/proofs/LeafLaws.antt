-- What a leaf writes is the plain directive of its value.
use Rattle.std.specs.Prelude.{Err}
use mathlib.Core.Path.{◌≡◌, refl, sym, ap, ◌∙◌}
use mathlib.Core.Bool.{Bool, true, not}
use mathlib.Core.List.{List, [], ◌∷◌}
use Prim.Native.Nat.{ℕ, ◌+◌, ◌%◌, ◌^◌, ◌≤◌, ◌<◌}
use native.Mathlib.Omega.{arith}
use lib.Dec.{lit≤}
use lib.IntN.{ℤ, pos}
use Rattle.rules.specs.declared.Refusal.{Refusal}
use Rattle.rules.specs.Refusal.{number_of, number_in_check}
use Rattle.rules.specs.Event.{put, write, judged}
use Rattle.rules.specs.Decimal.{places, zeros, filled}
use Rattle.rules.specs.Writing.{verdict}
use Rattle.rules.proofs.DecimalLaws.{filled_zeros_places}
use Rattle.text.specs.Ran.{Ran}
use Rattle.text.proofs.JudgedLaws.{Check}
use Rattle.text.proofs.RanLaws.{said}
use Rattle.printing.specs.FillWith.{fill_with}
use Rattle.number_directive.proofs.NumberLaws.{own_fill, narrow, number_held, number_failed}
use Rattle.letters.specs.Printed.{valued, Printed}

module _ (ok : Bool) (v : ℤ) (w : ℕ) (space : Bool) {room : ℕ} {l : List ℕ} {n n' : ℕ} where
  -- a field out of range stops at once
  pub refused : {c : Check} {e : Refusal} → number_in_check c ≡ verdict ok → c ≡ Err e → ((limit room : ℕ) (l : List ℕ) → Ran limit room (judged (number_of e) ∷ []) l n l n') → Printed room (valued ok v w space) l n l n'
  refused f g w = λ limit k r zone is. number_failed k _ r zone is f g (w limit room l)

  -- else the number is filled by its own fill to its own width
  pub written : {l' s : List ℕ} → ok ≡ true → w ≤ 65535 → s ≡ filled (fill_with (not space)) w v → ((limit : ℕ) → Ran limit room (write (put s) ∷ []) l n l' n') → Printed room (valued ok v w space) l n l' n'
  written t h e f =
      λ limit k r zone is. number_held k _ r zone is t refl (own_fill space) refl refl (narrow _ w v h (said e (f limit)))

-- ## The digits

pub as_places : (k n : ℕ) → n < 10 ^ k → 1 ≤ k → places k n ≡ filled zeros k (pos n)
as_places k n h g = sym (filled_zeros_places k n h g)

pub one_digit : (n : ℕ) → n < 10 → (48 + n) ∷ [] ≡ filled zeros 1 (pos n)
unfolding places
one_digit n h =
    let e : n ≡ n % 10 = omega arith in
    ap (λ (m : ℕ). (48 + m) ∷ []) e ∙ as_places 1 n h (lit≤ tt)
