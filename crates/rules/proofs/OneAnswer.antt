-- Any two answers that an entry's promise allows are equal: what is promised is a function, and no two answers report alike.
use Rattle.std.specs.Prelude.{Result, Ok, Err}
use Rattle.std.specs.Result.{result_unwrap_or}
use Rattle.rules.specs.declared.UnknownNumber.{UnknownNumber}
use mathlib.Core.Path.{◌≡◌, refl, sym, ap, ◌∙◌}
use mathlib.Core.Bool.{Bool, true, false, cond, false≢true}
use mathlib.Core.List.{List}
use Prim.Native.Nat.{ℕ}
use lib.Dec.{eqb}
use lib.ListN.{length}
use Rattle.rules.specs.declared.Record.{Record}
use Rattle.rules.specs.declared.Refusal.{Refusal}
use Rattle.rules.specs.declared.Refusal.TheVariants.{InvalidTime, InvalidFormatString, FormattedStringTooLarge, WriteZero, InputTooLong, NoBuffer, OutOfRange, LengthMismatch, BadStored}
use Rattle.rules.specs.Refusal.{number_of, refusal_at, refusal_with, ByEvent, invalid_time, invalid_format_string, formatted_string_too_large, write_zero, Report, numbered}
use Rattle.rules.specs.Event.{reported, buffer_after}
use Rattle.rules.specs.Format.{formatted}

-- a refusal's number leads back to it
pub refusal_at_lem : (e : Refusal) → (eqb (number_of e) 0 ≡ false) × (refusal_at (number_of e) ≡ e)
unfolding refusal_at number_of
refusal_at_lem InvalidTime = (refl, refl)
refusal_at_lem InvalidFormatString = (refl, refl)
refusal_at_lem FormattedStringTooLarge = (refl, refl)
refusal_at_lem WriteZero = (refl, refl)
refusal_at_lem InputTooLong = (refl, refl)
refusal_at_lem NoBuffer = (refl, refl)
refusal_at_lem OutOfRange = (refl, refl)
refusal_at_lem LengthMismatch = (refl, refl)
refusal_at_lem BadStored = (refl, refl)

-- no refusal has the number 0
pub number_some : (e : Refusal) → number_of e ≡ 0 → ⊥
number_some e h = false≢true (sym (refusal_at_lem e).0 ∙ ap (λ (n : ℕ). eqb n 0) h)

-- a number of the table
abbrev pub OfTable : ℕ → Type 0
OfTable number = (r : Refusal) × (number_of r ≡ number)

pub number_known : {number : ℕ} → OfTable number → (eqb number 0 ≡ false) × (number_of (refusal_at number) ≡ number)
number_known (r, e) =
    let k = refusal_at_lem r in
    rw (← e) (k.0, ap number_of k.1)

pub event_number : {number : ℕ} → ByEvent number → OfTable number
unfolding number_of
event_number invalid_time = (InvalidTime, refl)
event_number invalid_format_string = (InvalidFormatString, refl)
event_number formatted_string_too_large = (FormattedStringTooLarge, refl)
event_number write_zero = (WriteZero, refl)

-- back from a report
answer_by : Report → Result ℕ Refusal
answer_by r = cond (eqb r.number 0) (Ok r.bytes) (Err (refusal_at r.number))

back : (a : Result ℕ Refusal) → answer_by (numbered a) ≡ a
unfolding answer_by numbered
back (Ok n) = refl
back (Err e) = let r = refusal_at_lem e in rw r.0 (ap Err r.1)

pub one_answer : (a b : Result ℕ Refusal) → numbered a ≡ numbered b → a ≡ b
one_answer a b e = sym (back a) ∙ ap answer_by e ∙ back b

-- two answers, each with the buffer that it leaves, that the promise of the formatting entry allows
pub formatted_once : (format zone : List ℕ) (r : Record) (buffer : List ℕ) (a b : Result ℕ Refusal) (after-a after-b : List ℕ) →
    numbered a ≡ reported (formatted format zone r (length buffer)) → after-a ≡ buffer_after (formatted format zone r (length buffer)) buffer →
    numbered b ≡ reported (formatted format zone r (length buffer)) → after-b ≡ buffer_after (formatted format zone r (length buffer)) buffer →
    (a ≡ b) × (after-a ≡ after-b)
formatted_once format zone r buffer a b after-a after-b p q p' q' = (one_answer a b (p ∙ sym p'), q ∙ sym q')

result_or_cond : (t : Bool) (r s : Refusal) (rest : Result Refusal UnknownNumber) → result_unwrap_or rest WriteZero ≡ s →
    result_unwrap_or (cond t (Ok r) rest) WriteZero ≡ cond t r s
result_or_cond true r s rest h = refl
result_or_cond false r s rest h = h

-- a number that is none of the table's stands for 4
pub refusal_or : (n : ℕ) → result_unwrap_or (refusal_with n) WriteZero ≡ refusal_at n
unfolding refusal_with refusal_at
refusal_or n =
    result_or_cond (eqb n 1) _ _ _
    (result_or_cond (eqb n 2) _ _ _
    (result_or_cond (eqb n 3) _ _ _
    (result_or_cond (eqb n 5) _ _ _
    (result_or_cond (eqb n 6) _ _ _
    (result_or_cond (eqb n 7) _ _ _
    (result_or_cond (eqb n 10) _ _ _
    (result_or_cond (eqb n 11) _ _ _
    (result_or_cond (eqb n 4) WriteZero WriteZero (Err (record { 0 = n })) refl ∙ same (eqb n 4)))))))))
  where
    same : (t : Bool) → cond t WriteZero WriteZero ≡ WriteZero
    same true = refl
    same false = refl
