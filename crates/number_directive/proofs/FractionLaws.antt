-- The runs of a fraction of a second, and that they are those of its directive.
use mathlib.Core.Path.{◌≡◌, refl, ap, ◌∙◌}
use mathlib.Core.List.{List, [], ◌∷◌, map}
use Prim.Native.Nat.{ℕ, ◌-◌, ◌/◌, ◌^◌, ◌≤◌, ◌<◌, min}
use native.Mathlib.Nat.{pow-le-pow_right, div-le_self}
use native.Mathlib.Omega.{arith}
use lib.Dec.{lit<}
use mir.Syntax.{w32, w64}
use mir.Val.{Fits}
use Rattle.rules.specs.declared.Fraction.{Fraction}
use Rattle.rules.specs.declared.Piece.{Piece}
use Rattle.rules.specs.declared.Record.{Record}
use Rattle.rules.specs.declared.Spec.TheVariants.{Fraction as fraction}
use Rattle.rules.specs.Event.{put, pad, write, judged}
use Rattle.rules.specs.Decimal.{places}
use Rattle.rules.specs.Writing.{width_or, fraction_digits, fraction_writes, lead_of, body_of, verdict_of, spec_events}
use Rattle.text.specs.Ran.{Ran}
use Rattle.text.proofs.RanLaws.{◌then◌, same_events, pad_none_after}

module _ (width nanos : ℕ) where
  fraction_writes_lem : {count value zeros : ℕ} → count ≡ min width 9 → value ≡ nanos / 10 ^ (9 - width) → zeros ≡ width - 9 → write (put (places count value)) ∷ write (pad 48 zeros) ∷ [] ≡ map write (fraction_writes width nanos)
  unfolding fraction_writes
  fraction_writes_lem c v z = cc

  -- up to nine digits no zeros follow
  pub nine_or_fewer : {limit room power : ℕ} {l l' : List ℕ} {n r : ℕ} → width ≤ 9 → power ≡ 10 ^ (9 - width) → Ran limit room (write (put (places width (nanos / power))) ∷ []) l n l' r → Ran limit room (map write (fraction_writes width nanos)) l n l' r
  nine_or_fewer h e w = same_events (fraction_writes_lem (omega arith) (ap (λ (p : ℕ). nanos / p) e) (omega arith)) (pad_none_after w)

  pub more_than_nine : {limit room : ℕ} {l l' l'' : List ℕ} {n m r : ℕ} → 9 < width → Ran limit room (write (put (places 9 nanos)) ∷ []) l n l' m → Ran limit room (write (pad 48 (width - 9)) ∷ []) l' m l'' r → Ran limit room (map write (fraction_writes width nanos)) l n l'' r
  more_than_nine h v w =
      let z : 0 ≡ 9 - width = omega arith in
      let whole : nanos ≡ nanos / 1 = omega arith in
      same_events (fraction_writes_lem (omega arith) (whole ∙ ap (λ (k : ℕ). nanos / 10 ^ k) z) refl) (v then w)

-- ## The quotient

pub power_positive : {power : ℕ} (k : ℕ) → power ≡ 10 ^ k → 0 < power
power_positive k e =
    let z : 0 ≤ k = omega arith in
    let p : 10 ^ 0 ≤ 10 ^ k = pow-le-pow_right (lit< tt) z in
    omega arith

pub quotient_fits : (n d : ℕ) → Fits w32 n → Fits w64 (n / d)
quotient_fits n d f = record { fits = omega (arith, div-le_self n d) }

-- ## The directive

pub fraction_run : (f : Fraction) (p : Piece) (r : Record) (zone : List ℕ) {limit room width : ℕ} → width ≡ width_or p.width (fraction_digits f) → {l l' : List ℕ} {n n' : ℕ}
    → Ran limit room (judged (verdict_of (fraction f) r zone) ∷ map write (fraction_writes width r.nanoseconds)) l n l' n' → Ran limit room (spec_events (fraction f) p r zone) l n l' n'
unfolding spec_events lead_of body_of
fraction_run f p r zone e w =
    same_events (ap (λ (k : ℕ). judged (verdict_of (fraction f) r zone) ∷ map write (fraction_writes k r.nanoseconds)) e) w
