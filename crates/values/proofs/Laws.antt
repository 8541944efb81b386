-- What an answer is from its parts, and what a number's fields being in range says.
use mathlib.Core.Path.{◌≡◌, refl, sym, ap, ◌∙◌, subst, subst⁻¹}
use mathlib.Core.Bool.{Bool, true, false}
use mathlib.Core.List.{List, [], ◌∷◌}
use mathlib.Core.Logic.{inl, inr}
use Prim.Native.Nat.{ℕ, ◌≤◌}
use native.Mathlib.Omega.{arith}
use lib.IntN.{ℤ}
use borrow.Author.Tests.{eq-eqb, ne_eqb}
use Rattle.rules.specs.declared.Number.{Number}
use Rattle.rules.specs.declared.Number.TheVariants.{YearIso8601, YearIso8601Rem100, WeekNumberIso8601}
use Rattle.rules.specs.declared.Padding.{Padding}
use Rattle.rules.specs.declared.Record.{Record}
use Rattle.rules.specs.Record.{Field, ok_field, all_ok, weekday, day_of_year}
use Rattle.rules.specs.Calendar.{days_in}
use Rattle.rules.specs.Decimal.{Fill}
use Rattle.rules.specs.Writing.{or_if_zero, value_of, default_width, fill_of, number_fields}
use Rattle.rules.proofs.RecordLaws.{ranges_of}
use Rattle.fields.proofs.Laws.{alone}
use Rattle.values.specs.declared.Value.{Value}
use Rattle.values.specs.Value.{fill_by, ValueIs}
use Rattle.values.specs.Inner.{Valued, InWeek, Weekly, OfIsoWeek}

-- ## "with 0 read as"

pub is_zero : (other n : ℕ) → n ≡ 0 → other ≡ or_if_zero other n
is_zero other n h = rw (eq-eqb n 0 h)

pub not_zero : (other n : ℕ) → (n ≡ 0 → ⊥) → n ≡ or_if_zero other n
not_zero other n h = rw (ne_eqb n 0 h)

-- ## The numbers of the ISO week

pub last_of_three : {n : Number} → (n ≡ YearIso8601 → ⊥) → (n ≡ YearIso8601Rem100 → ⊥) → OfIsoWeek n → n ≡ WeekNumberIso8601
last_of_three a b (inl e) = absurd (a e)
last_of_three a b (inr (inl e)) = absurd (b e)
last_of_three a b (inr (inr e)) = e

-- ## Fields in range

pub week_range : (r : Record) → InWeek r → (r.day_of_week ≤ 6) × (1 ≤ r.day_of_year) × (r.day_of_year ≤ days_in r.year)
week_range r h = let e = ranges_of _ r [] (h []) in (e.0, e.1.0.0, e.1.0.1)

module _ (r : Record) {ok : Bool} (checked : (zone : List ℕ) → ok ≡ all_ok (weekday ∷ day_of_year ∷ []) r zone) where
  pub in_week : ok ≡ true → InWeek r
  in_week h zone = sym (checked zone) ∙ h

  pub not_in_week {ℓ} : {A : Type ℓ} → ok ≡ false → InWeek r → A
  not_in_week h w = let z : ◌≡◌ {A = ℕ} 0 1 = cc (checked [], w []) in absurd (omega arith)

-- ## An answer

-- a number that is known to be another
pub renumbered : {ok : Bool} {y z : ℤ} {width : ℕ} {space : Bool} {v : Value} → y ≡ z → Valued ok y width space v → Valued ok z width space v
renumbered {ok} {y} {z} {width} {space} {v} e h = subst (λ (x : ℤ). Valued ok x width space v) e h

-- an answer that goes by the week's fields
pub weekly : {r : Record} {v : Value} {ok : Bool} {number : ℤ} {width : ℕ} → ((zone : List ℕ) → ok ≡ all_ok (weekday ∷ day_of_year ∷ []) r zone) → Valued ok number width false v → Weekly r number width v
weekly {r} {v} {ok} {number} {width} c h =
    let e : v.ok ≡ ok = ap (λ (u : Value). u.ok) h.is in
    record { checked = λ zone. e ∙ c zone; valued = subst⁻¹ (λ (b : Bool). Valued b number width false v) e h }

-- the answer for a directive k: of the check of its fields, and of the number wherever they are in range
answered : {m k : Number} {fs : List Field} {r : Record} {v : Value} {ok : Bool} {number : ℤ} {space : Bool} → m ≡ k → fill_of k ≡ fill_by space → number_fields k ≡ fs
    → ((zone : List ℕ) → ok ≡ all_ok fs r zone) → (ok ≡ true → number ≡ value_of k r) → Valued ok number (default_width k number) space v → ValueIs m r v
answered {k = k} {r = r} {v = v} e f l c n h =
    subst⁻¹ (λ (j : Number). ValueIs j r v) e
    (subst⁻¹ (ValueIs k r) h.is
    (record {
      ok = λ zone. c zone ∙ sym (ap (λ (fs : List Field). all_ok fs r zone) l);
      number = n;
      width = λ o. ap (default_width k) (n o);
      fill = λ p. ap (λ (g : Padding → Fill). g p) f;
      narrow = h.narrow;
    }))

-- it checks no field
pub unchecked : {m k : Number} {r : Record} {v : Value} {number : ℤ} {space : Bool} → m ≡ k → fill_of k ≡ fill_by space → number_fields k ≡ []
    → number ≡ value_of k r → Valued true number (default_width k number) space v → ValueIs m r v
unfolding all_ok
unchecked e f l n h = answered e f l (λ zone. refl) (λ o. n) h

-- it checks one field
pub checked : {m k : Number} {x : Field} {r : Record} {v : Value} {ok : Bool} {number : ℤ} {space : Bool} → m ≡ k → fill_of k ≡ fill_by space → number_fields k ≡ x ∷ []
    → ((zone : List ℕ) → ok ≡ ok_field x r zone) → number ≡ value_of k r → Valued ok number (default_width k number) space v → ValueIs m r v
checked {x = x} {r = r} e f l c n h = answered e f l (λ zone. alone r zone x (c zone)) (λ o. n) h

-- it checks the week's fields
pub week_checked : {m k : Number} {r : Record} {v : Value} {number : ℤ} → m ≡ k → fill_of k ≡ fill_by false → number_fields k ≡ weekday ∷ day_of_year ∷ []
    → (InWeek r → number ≡ value_of k r) → Weekly r number (default_width k number) v → ValueIs m r v
week_checked {r = r} e f l n h = answered e f l h.checked (λ o. n (in_week r h.checked o)) h.valued
