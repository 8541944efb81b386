-- The run of a combination, from the runs of its pad, its check and its text.
use Rattle.std.specs.Prelude.{Ok, Err}
use mathlib.Core.Path.{◌≡◌, refl, sym, ap, ◌∙◌}
use mathlib.Core.Bool.{Bool, true, false}
use mathlib.Core.List.{List, [], ◌∷◌}
use Prim.Native.Nat.{ℕ}
use native.Mathlib.Nat.{zero-sub}
use Rattle.rules.specs.declared.Combination.{Combination}
use Rattle.rules.specs.declared.Flags.{Flags}
use Rattle.rules.specs.declared.Piece.{Piece}
use Rattle.rules.specs.declared.Record.{Record}
use Rattle.rules.specs.declared.Spec.TheVariants.{Combination as combination}
use Rattle.rules.specs.declared.Refusal.{Refusal}
use Rattle.rules.specs.Refusal.{number_of, number_in_check}
use Rattle.rules.specs.Event.{put, pad, Event, write, judged}
use Rattle.rules.specs.Record.{Field, all_ok}
use Rattle.rules.specs.Writing.{pad_to, combination_length, combination_text, combination_fields, fields_of, lead_of, body_of, verdict, spec_events}
use Rattle.rules.proofs.RecordLaws.{Each, ranges_of}
use Rattle.text.specs.Ran.{Ran}
use Rattle.text.proofs.RanLaws.{◌then◌, same_events, said}
use Rattle.text.proofs.JudgedLaws.{Check, check_held, passes, stops}
use Rattle.printing.specs.Plain.{plain_piece}
use Rattle.combination_directive.specs.Combined.{Combined}

-- ## The check and the text

-- the check of the fields passes, so each is in its range
pub record Held (fs : List Field) (r : Record) : Type 0 where
  pub passed : (zone : List ℕ) → all_ok fs r zone ≡ true
  pub ranges : Each fs r

pub held_by : {fs : List Field} {r : Record} {ok : Bool} {c : Check} {u : Unit {0}} → ((zone : List ℕ) → ok ≡ all_ok fs r zone) → number_in_check c ≡ verdict ok → c ≡ Ok u → Held fs r
held_by {fs} {r} {ok} checked f g =
    let t = check_held ok f g in
    record { passed = λ zone. sym (checked zone) ∙ t; ranges = ranges_of fs r [] (sym (checked []) ∙ t) }

module _ (kind : Combination) (r : Record) {room : ℕ} {upper : Bool} where
  pub failed : {ok : Bool} {c : Check} {e : Refusal} {l : List ℕ} {n n' : ℕ} → ((zone : List ℕ) → ok ≡ all_ok (combination_fields kind) r zone) → number_in_check c ≡ verdict ok → c ≡ Err e → ((limit room : ℕ) (l : List ℕ) → Ran limit room (judged (number_of e) ∷ []) l n l n') → Combined room kind upper r l n l n'
  unfolding fields_of
  failed checked f g w = λ limit flags zone u. stops (combination kind) r zone (checked zone) f g (w limit _ _)

  pub written : {t l l' : List ℕ} {n n' : ℕ} → Held (combination_fields kind) r → ((f : Flags) → f.upper ≡ upper → t ≡ combination_text kind f r) → ((limit : ℕ) → Ran limit room (write (put t) ∷ []) l n l' n') → Combined room kind upper r l n l' n'
  unfolding fields_of
  written h q w = λ limit f zone u. passes (combination kind) r zone (sym (h.passed zone)) refl (said (q f u) (w limit))

-- ## The pad in front

module _ {limit room : ℕ} (c : Combination) (r : Record) where
  lead : (p : Piece) {upper : Bool} {es : List Event} {l l' l'' : List ℕ} {n m n' : ℕ} → es ≡ write (pad_to p (combination_length c r.year)) ∷ [] → p.flags.upper ≡ upper → Ran limit room es l n l' m → Combined room c upper r l' m l'' n' → (zone : List ℕ) → Ran limit room (spec_events (combination c) p r zone) l n l'' n'
  unfolding spec_events lead_of body_of
  lead p e u v w zone = same_events e v then w limit p.flags zone u

  pub padded : (p : Piece) {k : ℕ} {upper : Bool} {l l' l'' : List ℕ} {n m n' : ℕ} → k ≡ combination_length c r.year → upper ≡ p.flags.upper → Ran limit room (write (pad_to p k) ∷ []) l n l' m → Combined room c upper r l' m l'' n' → (zone : List ℕ) → Ran limit room (spec_events (combination c) p r zone) l n l'' n'
  padded p e u v w = lead p (ap (λ (k : ℕ). write (pad_to p k) ∷ []) e) (sym u) v w

  pub plainly : {l l' l'' : List ℕ} {n m n' : ℕ} → Ran limit room (write (pad 32 0) ∷ []) l n l' m → Combined room c false r l' m l'' n' → (zone : List ℕ) → Ran limit room (spec_events (combination c) (plain_piece (combination c)) r zone) l n l'' n'
  plainly v w = lead (plain_piece (combination c)) (ap (λ (k : ℕ). write (pad 32 k) ∷ []) (sym (zero-sub (combination_length c r.year)))) refl v w
