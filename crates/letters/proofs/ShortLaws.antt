-- A number with the left flag alone: the directive of a letter, and its one or two digits.
use Rattle.std.specs.Prelude.{Option, Some}
use Rattle.std.specs.Bool.{then_some}
use mathlib.Core.Path.{◌≡◌, refl, sym, ap, ◌∙◌}
use mathlib.Core.Bool.{Bool, true, false}
use mathlib.Core.List.{List, [], ◌∷◌}
use mathlib.Core.Logic.{◌⊎◌, inl, inr}
use Prim.Native.Nat.{ℕ, ◌+◌, ◌≤◌, ◌<◌}
use native.Mathlib.Omega.{arith}
use lib.Dec.{lit≤}
use lib.IntN.{pos}
use Rattle.rules.specs.declared.Number.{Number}
use Rattle.rules.specs.declared.Record.{Record}
use Rattle.rules.specs.declared.Spec.TheVariants.{Number as number}
use Rattle.rules.specs.Decimal.{places, zeros, decimal_text}
use Rattle.rules.specs.Reading.{spec_of}
use Rattle.rules.specs.Record.{Field, ok_field}
use Rattle.rules.specs.Writing.{number_writes}
use Rattle.rules.proofs.DecimalLaws.{digits_small, count_above, filled_plain, filled_zeros_places, length_decimal_pos}
use Rattle.std.proofs.lemmas.Option.{none-some}
use Rattle.rules.proofs.RecordLaws.{Within}
use Rattle.text.proofs.RanLaws.{said}
use Rattle.values.specs.Value.{ValueIs}
use Rattle.number_directive.proofs.NumberLaws.{number_held}
use Rattle.letters.specs.Printed.{valued}
use Rattle.letters.proofs.ArmLaws.{in_field}
use Rattle.letters.specs.Short.{left_piece, Short}

-- v is the number n, and the check of its fields passes
pub record Held (ok : Bool) (n v : ℕ) : Type 0 where
  pub passes : ok ≡ true
  pub number : v ≡ n

pub held : (ok : Bool) (n : ℕ) {v : ℕ} {o : Option ℕ} → o ≡ then_some ok n → o ≡ Some v → Held ok n v
held true n {v} e f = record { passes = refl; number = cc (e, f) }
held false n {v} e f = absurd (none-some v (sym e ∙ f))

-- the number of a letter, by its value
pub short : (r : Record) (m : Number) (space : Bool) {b k : ℕ} {ok : Bool} {n v w : ℕ} → b ≡ k → spec_of k ≡ Some (number m) → ValueIs m r (valued ok (pos n) w space) → Held ok n v → Short r b v
unfolding number_writes
short r m space e f is h =
    record {
      spec = number m;
      entry = ap spec_of e ∙ f;
      runs = λ zone u. number_held m (left_piece (number m)) r zone is h.passes refl refl refl refl (said (ap (λ (k : ℕ). decimal_text (pos k)) h.number) u);
    }

-- one of two letters
pub short_two : (r : Record) (m m' : Number) (space space' : Bool) {b j k : ℕ} {ok : Bool} {n v w : ℕ} → (b ≡ j) ⊎ (b ≡ k) → spec_of j ≡ Some (number m) → spec_of k ≡ Some (number m') → ValueIs m r (valued ok (pos n) w space) → ValueIs m' r (valued ok (pos n) w space') → Held ok n v → Short r b v
short_two r m m' space space' (inl e) f g is is' h = short r m space e f is h
short_two r m m' space space' (inr e) f g is is' h = short r m' space' e g is' h

-- and it has two digits at most, where its field has
pub bounded : (f : Field) (r : Record) {ok : Bool} {n v : ℕ} → ((zone : List ℕ) → ok ≡ ok_field f r zone) → Held ok n v → (Within f r → n < 100) → v < 100
bounded f r checked h small = omega (arith, h.number, small (in_field f r checked h.passes))

-- ## The digits

pub one_short : (n : ℕ) → n < 10 → (48 + n) ∷ [] ≡ decimal_text (pos n)
unfolding decimal_text
one_short n h = sym (digits_small n h)

pub two_short : (n : ℕ) → 10 ≤ n → n < 100 → places 2 n ≡ decimal_text (pos n)
two_short n h k =
    sym (filled_zeros_places 2 n k (lit≤ tt)) ∙ filled_plain zeros 2 (pos n) (omega (arith, length_decimal_pos n, count_above 1 n h))
