-- The check of a directive, by its verdict: it passes, or the run stops there.
use Rattle.std.specs.Prelude.{Result, Ok, Err}
use mathlib.Core.Path.{◌≡◌, refl, sym, ap, ◌∙◌}
use mathlib.Core.Bool.{Bool, true, false}
use mathlib.Core.List.{List, [], ◌∷◌}
use Prim.Native.Nat.{ℕ, ◌≤◌}
use native.Mathlib.Omega.{arith}
use lib.Dec.{lit≤}
use Rattle.rules.specs.declared.Record.{Record}
use Rattle.rules.specs.declared.Spec.{Spec}
use Rattle.rules.specs.Record.{all_ok}
use Rattle.rules.specs.Event.{Event, judged}
use Rattle.rules.specs.Writing.{fields_of, verdict, verdict_of}
use Rattle.rules.specs.declared.Refusal.{Refusal}
use Rattle.rules.specs.declared.Refusal.TheVariants.{InvalidTime, InvalidFormatString, FormattedStringTooLarge, WriteZero, InputTooLong, NoBuffer, OutOfRange, LengthMismatch, BadStored}
use Rattle.rules.specs.Refusal.{number_of, number_in_check}
use Rattle.rules.proofs.OneAnswer.{refusal_at_lem}
use Rattle.text.specs.Ran.{Ran}
use Rattle.text.proofs.RanLaws.{same_events, told, checks_hold, stopped}

-- the answer of a check
abbrev pub Check : Type 0
Check = Result (Unit {0}) Refusal

pub refusal_small : (e : Refusal) → number_of e ≤ 255
unfolding number_of
refusal_small InvalidTime = lit≤ tt
refusal_small InvalidFormatString = lit≤ tt
refusal_small FormattedStringTooLarge = lit≤ tt
refusal_small WriteZero = lit≤ tt
refusal_small InputTooLong = lit≤ tt
refusal_small NoBuffer = lit≤ tt
refusal_small OutOfRange = lit≤ tt
refusal_small LengthMismatch = lit≤ tt
refusal_small BadStored = lit≤ tt

-- what a check comes to, by its answer
pub check_refused : {c : Check} {e : Refusal} {v : ℕ} → number_in_check c ≡ v → c ≡ Err e → number_of e ≡ v
unfolding number_in_check
check_refused f g = sym (ap number_in_check g) ∙ f

pub check_passed : {c : Check} {u : Unit {0}} {v : ℕ} → number_in_check c ≡ v → c ≡ Ok u → v ≡ 0
unfolding number_in_check
check_passed f g = sym f ∙ ap number_in_check g

verdict_held : (ok : Bool) → verdict ok ≡ 0 → ok ≡ true
unfolding verdict
verdict_held true z = refl
verdict_held false z = absurd (omega arith)

-- a check that passes says that the fields are in range
pub check_held : {c : Check} {u : Unit {0}} (ok : Bool) → number_in_check c ≡ verdict ok → c ≡ Ok u → ok ≡ true
check_held ok f g = verdict_held ok (check_passed f g)

pub after_number : {limit room : ℕ} {l : List ℕ} {n n' : ℕ} {v w : ℕ} → v ≡ w → Ran limit room (judged v ∷ []) l n l n' → Ran limit room (judged w ∷ []) l n l n'
after_number e r = same_events (ap (λ (x : ℕ). judged x ∷ []) e) r

module _ (s : Spec) (r : Record) (zone : List ℕ) {ok : Bool} (checked : ok ≡ all_ok (fields_of s) r zone) {limit room : ℕ} {es : List Event} {l : List ℕ} {n n' : ℕ} where
  pub judged_first : {v : ℕ} → v ≡ verdict ok → {l' : List ℕ} → Ran limit room (judged v ∷ es) l n l' n' → Ran limit room (judged (verdict_of s r zone) ∷ es) l n l' n'
  unfolding verdict_of
  judged_first is w = same_events (ap (λ (x : ℕ). judged x ∷ es) (is ∙ ap verdict checked)) w

  pub passes : ok ≡ true → {l' : List ℕ} → Ran limit room es l n l' n' → Ran limit room (judged (verdict_of s r zone) ∷ es) l n l' n'
  unfolding verdict
  passes t w = judged_first (ap verdict (sym t)) (checks_hold w)

  pub stops : {c : Check} {e : Refusal} → number_in_check c ≡ verdict ok → c ≡ Err e → Ran limit room (judged (number_of e) ∷ []) l n l n' → Ran limit room (judged (verdict_of s r zone) ∷ es) l n l n'
  stops {e = e} f g w = let some = (refusal_at_lem e).0 in judged_first (check_refused f g) (told (sym some) (stopped (told some w)))
