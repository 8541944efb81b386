-- The digits of the absolute value, written after the sign over zeros.
use Rattle.std.specs.Prelude.{◌≡◌, ◌≤◌, [], ◌∷◌, nat_abs}
use mathlib.Core.Path.{refl, ap, ◌∙◌}
use native.Mathlib.Omega.{arith}
use mir.Syntax.{w64}
use mir.ValLaws.{to_z-of_z}
use Rattle.rules.specs.Decimal.{minus_sign}
use Rattle.rules.proofs.DecimalLaws.{count_le}
use Rattle.numbers.proofs.Signed.{is_neg, is_pos}
use Rattle.numbers.proofs.TextLaws.{printed}
use Rattle.numbers.proofs.decimal_text.Goals as goal
use Rattle.numbers.proofs.decimal_text.Goals.{Joined-v-lt0, then-v-lt0, else-v-lt0}

size_is : (c : Joined-v-lt0) → c.unsigned_abs-size.result ≡ nat_abs c.args.v
size_is c = c.unsigned_abs-size.ensures.value ∙ ap nat_abs (to_z-of_z w64 _ c.ranges.v)

n_small : (c : Joined-v-lt0) → c.digit_count-n.result ≤ 19
n_small c = omega (arith, count_le 18 c.unsigned_abs-size.result (omega (arith, c.unsigned_abs-size.ensures.bound)))

sign_small : (c : Joined-v-lt0) → c.if-v-lt0.sign ≤ 1
sign_small c = elim c.if-v-lt0.branch [ then-v-lt0 w ↦ omega arith | else-v-lt0 w ↦ omega arith ]

pub write_places-requires : goal.write_places-requires
write_places-requires c =
    let j = (goal.at.write_places-requires c).Joined-v-lt0 in
    omega (arith, n_small j, sign_small j)

pub overflow_add-result : goal.overflow_add-result
overflow_add-result c =
    let j = (goal.at.overflow_add-result c).Joined-v-lt0 in
    omega (arith, n_small j, sign_small j)

pub returns : goal.returns
returns c =
    let size = size_is (goal.at.returns c).Joined-v-lt0 in
    let n = c.digit_count-n.ensures in
    let w = c.write_places.ensures in
    elim c.if-v-lt0.branch [
      | then-v-lt0 k ↦ let p = printed _ (45 ∷ []) 19 (ap minus_sign (is_neg w64 _ c.ranges.v k.if-v-lt0.true)) refl _ _ _ _ _ size n k.bytes-is k.sign-is w in record { text = p.0; count = p.1 }
      | else-v-lt0 k ↦ let p = printed _ [] 20 (ap minus_sign (is_pos w64 _ c.ranges.v k.if-v-lt0.false)) refl _ _ _ _ _ size n k.bytes-is k.sign-is w in record { text = p.0; count = p.1 }
    ]
