-- What the parts of an offset come to.
use mathlib.Core.Path.{◌≡◌, ap, ◌∙◌}
use mathlib.Core.Bool.{Bool, not, cond}
use Prim.Native.Nat.{ℕ, ◌/◌, ◌^◌, ◌<◌}
use lib.IntN.{ℤ, nat_abs}
use lib.Dec.{T}
use lib.Ieee.{Float, is_nan}
use Rattle.rules.specs.Offset.{hours_of, minutes_of, seconds_of, minus, extra}
use Rattle.offset.specs.declared.OffsetParts.{OffsetParts}
use Rattle.offset.specs.Hour.{hour_of, is_sign_negative, below_ten, whole_hours, is_hour}
use Rattle.offset.specs.Parts.{parts_for}
use Rattle.offset.proofs.HourLaws.{hour_sign, hour_below, hour_hours, hour_is, hour_number}

-- what the signed hour gives back
module _ (negative : Bool) (hours : ℕ) (small : hours < 2 ^ 32) {h : Float} (is : h ≡ hour_of negative hours) where
  pub number_is : T (not (is_nan h))
  number_is = rw is (hour_number negative hours small)

  pub u32_is : T (is_hour h)
  u32_is = rw is (hour_is negative hours small)

  sign_is : is_sign_negative h ≡ negative
  sign_is = ap is_sign_negative is ∙ hour_sign negative hours small

  extra_is : cond {A = ℕ} (below_ten h) 1 0 ≡ extra negative hours
  unfolding extra
  extra_is = ap (λ (b : Bool). cond {A = ℕ} b 1 0) (ap below_ten is ∙ hour_below negative hours small)

  hours_is : whole_hours h ≡ hours
  hours_is = ap whole_hours is ∙ hour_hours negative hours small

-- a signed argument z is read back from its bits as y: what was found of y holds of z
module _ (z y : ℤ) (utc left : Bool) (same : y ≡ z) where
  pub hour_from : {negative : Bool} {n : ℕ} {h : Float} → n ≡ nat_abs y → negative ≡ minus left utc y → h ≡ hour_of negative (n / 3600) → h ≡ hour_of (minus left utc z) (hours_of z)
  hour_from p q r = cc

  pub parts_from : hours_of y < 2 ^ 32 → {h : Float} → h ≡ hour_of (minus left utc y) (hours_of y) →
      {sign : Bool} {place hours minute second : ℕ} →
      sign ≡ is_sign_negative h → place ≡ cond (below_ten h) 1 0 → hours ≡ whole_hours h → minute ≡ minutes_of y → second ≡ seconds_of y →
      ◌≡◌ {A = OffsetParts} (record { minus = sign; extra = place; hours = hours; minute = minute; second = second }) (parts_for z utc left)
  unfolding parts_for
  parts_from small is a b c d e = cc (sign_is _ _ small is, extra_is _ _ small is, hours_is _ _ small is)
