-- What an arm of the match on a letter says: the plain directive of the table's entry; and the bounds of the numbers that are written in one, two or three digits.
use Rattle.std.specs.Prelude.{Some}
use mathlib.Core.Path.{◌≡◌, refl, sym, ap, ◌∙◌}
use mathlib.Core.Bool.{Bool, true, false}
use mathlib.Core.List.{List, [], ◌∷◌}
use mathlib.Core.Logic.{◌⊎◌, inl, inr}
use Prim.Native.Nat.{ℕ, ◌≤◌, ◌<◌}
use native.Mathlib.Omega.{arith}
use lib.Dec.{eqb}
use lib.IntN.{ℤ}
use Rattle.rules.specs.declared.IsoWeek.{IsoWeek}
use Rattle.rules.specs.declared.Number.{Number}
use Rattle.rules.specs.declared.Record.{Record}
use Rattle.rules.specs.declared.Spec.{Spec}
use Rattle.rules.specs.declared.Spec.TheVariants.{Number as number}
use Rattle.rules.specs.Reading.{spec_of}
use Rattle.rules.specs.Record.{Field, ok_field, all_ok, weekday, day_of_year}
use Rattle.rules.specs.Week.{week_number, iso_week}
use Rattle.rules.specs.Writing.{year_width, or_if_zero}
use Rattle.rules.proofs.EventLaws.{split_on}
use Rattle.rules.proofs.RecordLaws.{Within, range_of}
use Rattle.rules.proofs.WeekLaws.{week_number_to, iso_week_to}
use Rattle.rules.proofs.WidthLaws.{year_narrow}
use Rattle.values.specs.declared.Value.{Value}
use Rattle.values.specs.Value.{ValueIs}
use Rattle.values.specs.Inner.{Valued, InWeek}
use Rattle.values.proofs.Laws.{week_range, in_week}
use Rattle.letters.specs.Letter.{RanPlain, Lettered}
use Rattle.letters.specs.Printed.{valued, Printed}

-- ## The entry of a letter

module _ {limit room : ℕ} (r : Record) (zone : List ℕ) (s : Spec) {l l' : List ℕ} {n n' : ℕ} where
  pub known : {b k : ℕ} → b ≡ k → spec_of k ≡ Some s → RanPlain limit room s r zone l n l' n' → Lettered limit room b r zone l n l' n'
  known e f w = inl (record { spec = s; entry = ap spec_of e ∙ f; ran = w })

  -- one of two letters
  pub known_two : {b j k : ℕ} → (b ≡ j) ⊎ (b ≡ k) → spec_of j ≡ Some s → spec_of k ≡ Some s → RanPlain limit room s r zone l n l' n' → Lettered limit room b r zone l n l' n'
  known_two (inl e) f g w = known e f w
  known_two (inr e) f g w = known e g w

-- a number, by its value
pub of_value : {limit room : ℕ} (r : Record) (zone : List ℕ) (m : Number) {b k : ℕ} {v : Value} {l l' : List ℕ} {n n' : ℕ} → b ≡ k → spec_of k ≡ Some (number m) → ValueIs m r v → Printed room v l n l' n' → Lettered limit room b r zone l n l' n'
of_value {limit} r zone m e f is w = known r zone (number m) e f (w limit m r zone is)

pub exact : {ok : Bool} {v : ℤ} {width : ℕ} {space : Bool} → width ≤ 5 → Valued ok v width space (valued ok v width space)
exact h = record { is = refl; narrow = h }

pub exact_year : {ok : Bool} {y : ℤ} → Valued ok y (year_width y) false (valued ok y (year_width y) false)
exact_year {y = y} = exact (year_narrow y)

-- ## Bounds

pub in_field : (f : Field) (r : Record) {ok : Bool} → ((zone : List ℕ) → ok ≡ ok_field f r zone) → ok ≡ true → Within f r
in_field f r e t = range_of f r [] (sym (e []) ∙ t)

pub from_1_small : (d : ℕ) → d ≤ 6 → or_if_zero 7 d < 10
from_1_small d h = split_on (λ n. n < 10) (eqb d 0) (λ t. omega arith) (λ t. omega arith)

module _ (r : Record) {ok : Bool} (checked : (zone : List ℕ) → ok ≡ all_ok (weekday ∷ day_of_year ∷ []) r zone) where
  pub week_small : (start : ℕ) {v : ℕ} → (InWeek r → v ≡ week_number start r.day_of_week r.day_of_year) → ok ≡ true → v < 100
  week_small start e t =
      let w = in_week r checked t in
      omega (arith, e w, week_number_to start r.year r.day_of_week r.day_of_year (week_range r w).2)

  pub iso_small : {i : IsoWeek} → (InWeek r → i ≡ iso_week r.year r.day_of_week r.day_of_year) → ok ≡ true → i.week < 100
  iso_small e t =
      let w = in_week r checked t in
      omega (arith, ap (λ (i : IsoWeek). i.week) (e w), iso_week_to r.year r.day_of_week r.day_of_year (week_range r w).2)
