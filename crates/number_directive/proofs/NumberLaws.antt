-- The runs of a number directive, from the runs of its pad and its text, and of its check where a field is out of range.
use Rattle.std.specs.Prelude.{Err}
use mathlib.Core.Path.{◌≡◌, refl, ap}
use mathlib.Core.Bool.{Bool, true, false, not}
use mathlib.Core.List.{List, [], ◌∷◌, map}
use Prim.Native.Nat.{ℕ, ◌-◌, ◌≤◌, ◌<◌, min}
use native.Mathlib.Omega.{arith}
use lib.IntN.{ℤ}
use mir.Syntax.{w64}
use mir.Val.{SFits, of_z, to_z}
use mir.ValLaws.{to_z-of_z}
use Rattle.rules.specs.declared.Number.{Number}
use Rattle.rules.specs.declared.Padding.TheVariants.{Left, Spaces, Zeros}
use Rattle.rules.specs.declared.Piece.{Piece}
use Rattle.rules.specs.declared.Record.{Record}
use Rattle.rules.specs.declared.Spec.TheVariants.{Number as number}
use Rattle.rules.specs.declared.Refusal.{Refusal}
use Rattle.rules.specs.Refusal.{number_of, number_in_check}
use Rattle.rules.specs.Event.{put, pad, write, judged}
use Rattle.rules.specs.Decimal.{Fill, zeros, fill_byte, filled}
use Rattle.rules.specs.Writing.{width_or, default_width, value_of, number_writes, fields_of, lead_of, body_of, verdict, spec_events}
use Rattle.rules.proofs.DecimalLaws.{filled_plain, length_decimal_from}
use Rattle.text.specs.Ran.{Ran}
use Rattle.text.proofs.RanLaws.{◌then◌, same_events, said, pad_none}
use Rattle.text.proofs.JudgedLaws.{Check, passes, stops}
use Rattle.printing.specs.FillWith.{fill_with}
use Rattle.values.specs.declared.Value.{Value}
use Rattle.values.specs.Value.{fill_by, ValueIs}

-- ## The fill

pub own_fill : (space : Bool) → fill_with (not space) ≡ fill_by space Left
own_fill true = refl
own_fill false = refl

pub always_spaces : (space : Bool) → fill_with false ≡ fill_by space Spaces
always_spaces true = refl
always_spaces false = refl

pub always_zeros : (space : Bool) → fill_with true ≡ fill_by space Zeros
always_zeros true = refl
always_zeros false = refl

-- ## The writes

module _ (fill : Fill) (width : ℕ) (v : ℤ) where
  filled_events : {byte excess rest : ℕ} → byte ≡ fill_byte fill → excess ≡ width - 65535 → rest ≡ min width 65535 → write (pad byte excess) ∷ write (put (filled fill rest v)) ∷ [] ≡ map write (number_writes false fill width v)
  unfolding number_writes
  filled_events b e r = cc

  -- a width of at most 65,535 has no excess
  pub narrow : {limit room : ℕ} {l l' : List ℕ} {n r : ℕ} → width ≤ 65535 → Ran limit room (write (put (filled fill width v)) ∷ []) l n l' r → Ran limit room (map write (number_writes false fill width v)) l n l' r
  narrow h w = same_events (filled_events refl (omega arith) (omega arith)) (pad_none w)

  pub wide : {limit room byte : ℕ} {l l' l'' : List ℕ} {n m r : ℕ} → 65535 < width → byte ≡ fill_byte fill → Ran limit room (write (pad byte (width - 65535)) ∷ []) l n l' m → Ran limit room (write (put (filled fill 65535 v)) ∷ []) l' m l'' r → Ran limit room (map write (number_writes false fill width v)) l n l'' r
  wide h b p w = same_events (filled_events b refl (omega arith)) (p then w)

  -- "Left flag: plain decimal."
  pub plain_decimal : {limit room : ℕ} {l l' : List ℕ} {n r : ℕ} → Ran limit room (write (put (filled zeros 1 v)) ∷ []) l n l' r → Ran limit room (map write (number_writes true fill width v)) l n l' r
  unfolding number_writes
  plain_decimal w = said (filled_plain zeros 1 v (length_decimal_from v)) w

-- what is read back of a number is that number
pub as_read : {limit room : ℕ} (fill : Fill) (width : ℕ) (v : ℤ) → SFits w64 v → {l l' : List ℕ} {n r : ℕ} → Ran limit room (write (put (filled fill width (to_z w64 (of_z w64 v)))) ∷ []) l n l' r → Ran limit room (write (put (filled fill width v)) ∷ []) l n l' r
as_read fill width v f w = said (ap (filled fill width) (to_z-of_z w64 v f)) w

-- ## The directive

module _ (n : Number) (p : Piece) (r : Record) (zone : List ℕ) {value : Value} (is : ValueIs n r value) where
  body : value.ok ≡ true → {left : Bool} {fill : Fill} {width : ℕ} {v : ℤ} → p.flags.left ≡ left → fill ≡ fill_by value.space p.padding → width ≡ width_or p.width value.width → v ≡ value.number
      → map write (number_writes left fill width v) ≡ map write (body_of (number n) p r zone)
  unfolding body_of
  body t e f w x =
      let d : width_or p.width value.width ≡ width_or p.width (default_width n (value_of n r)) = ap (width_or p.width) (is.width t) in
      cc (is.fill p.padding, is.number t)

  pub number_held : value.ok ≡ true → {left : Bool} {fill : Fill} {width : ℕ} {v : ℤ} → p.flags.left ≡ left → fill ≡ fill_by value.space p.padding → width ≡ width_or p.width value.width → v ≡ value.number
      → {limit room : ℕ} {l l' : List ℕ} {a b : ℕ} → Ran limit room (map write (number_writes left fill width v)) l a l' b → Ran limit room (spec_events (number n) p r zone) l a l' b
  unfolding spec_events lead_of fields_of
  number_held t e f w x v = passes (number n) r zone (is.ok zone) t (same_events (body t e f w x) v)

  pub number_failed : {c : Check} {e : Refusal} → number_in_check c ≡ verdict value.ok → c ≡ Err e → {limit room : ℕ} {l : List ℕ} {a b : ℕ} → Ran limit room (judged (number_of e) ∷ []) l a l b → Ran limit room (spec_events (number n) p r zone) l a l b
  unfolding spec_events lead_of fields_of
  number_failed f g w = stops (number n) r zone (is.ok zone) f g w
