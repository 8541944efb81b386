-- The form of `:::z` by what the offset has.
use mathlib.Core.Path.{◌≡◌, sym, ◌∙◌}
use Prim.Native.Nat.{ℕ}
use lib.IntN.{ℤ}
use borrow.Author.Tests.{eq-eqb, ne_eqb}
use Rattle.rules.specs.declared.Offset.TheVariants.{TimeZoneOffsetColonMinimal}
use Rattle.rules.specs.Offset.{minutes_of, seconds_of, form_of}
use Rattle.offset_directive.specs.declared.Form.TheVariants.{Hour, HourMinuteColon, HourMinuteSecond}
use Rattle.offset_directive.specs.Form.{as_form}

module _ (z : ℤ) {m s : ℕ} (em : m ≡ minutes_of z) (es : s ≡ seconds_of z) where
  pub has_seconds : (s ≡ 0 → ⊥) → as_form HourMinuteSecond ≡ form_of TimeZoneOffsetColonMinimal z
  unfolding form_of as_form
  has_seconds h = rw (ne_eqb (seconds_of z) 0 (λ q. h (es ∙ q)))

  pub has_minutes : s ≡ 0 → (m ≡ 0 → ⊥) → as_form HourMinuteColon ≡ form_of TimeZoneOffsetColonMinimal z
  unfolding form_of as_form
  has_minutes h k = rw (eq-eqb (seconds_of z) 0 (sym es ∙ h), ne_eqb (minutes_of z) 0 (λ q. k (em ∙ q)))

  pub has_hours : s ≡ 0 → m ≡ 0 → as_form Hour ≡ form_of TimeZoneOffsetColonMinimal z
  unfolding form_of as_form
  has_hours h k = rw (eq-eqb (seconds_of z) 0 (sym es ∙ h), eq-eqb (minutes_of z) 0 (sym em ∙ k))
