-- A letter right after the percent sign is a plain directive; and the step of the walk that it is.
use Rattle.std.specs.Prelude.{Some, None}
use mathlib.Core.Path.{◌≡◌, refl, sym, ap, subst, ◌∙◌}
use mathlib.Core.List.{List}
use Prim.Native.Nat.{ℕ, ◌+◌, ◌<◌}
use native.Mathlib.Decide.{dec_lt}
use native.Mathlib.Omega.{arith}
use lib.ListN.{length, get_or, get_or-eq_default}
use Rattle.rules.specs.declared.Record.{Record}
use Rattle.rules.specs.declared.Spec.{Spec}
use Rattle.rules.specs.declared.Reading.TheVariants.{InFlags}
use Rattle.rules.specs.declared.Turn.TheVariants.{Found}
use Rattle.rules.specs.Reading.{outset, possible_specs, look_up, spec_of}
use Rattle.rules.specs.Writing.{spec_events, events_of}
use Rattle.rules.proofs.LetterLaws.{letter_ends}
use Rattle.text.specs.Ran.{Ran}
use Rattle.printing.specs.Plain.{plain_piece}
use Rattle.reading.proofs.Laws.{by_turn}
use Rattle.reading.proofs.Positions.{items_at}
use Rattle.letters.specs.Letter.{RanLetter}
use Rattle.walk.specs.declared.Step.{Step}
use Rattle.walk.specs.Steps.{Stepped}
use Rattle.walk.proofs.WalkLaws.{step_directive}

-- past the end every byte is read as 0, which is none
pub byte_there : (format : List ℕ) (i : ℕ) → (get_or format i 0 ≡ 0 → ⊥) → i < length format
byte_there format i f =
    elim (dec_lt i (length format)) [ yes l ↦ l | no l ↦ absurd (f (get_or-eq_default format 0 (omega arith))) ]

pub letter_there : (format : List ℕ) (i : ℕ) (s : Spec) → spec_of (get_or format i 0) ≡ Some s → i < length format
unfolding look_up possible_specs
letter_there format i s f = byte_there format i (λ e. let z : ◌≡◌ {A = ℕ} 0 1 = cc (f, ap spec_of e) in omega arith)

module _ {limit room : ℕ} {r : Record} {zone format : List ℕ} {i : ℕ} {l l' : List ℕ} {n : ℕ} (s : Step) (p : get_or format i 0 ≡ 37) where
  step_letter : (spec : Spec) → spec_of (get_or format (i + 1) 0) ≡ Some spec → s.next ≡ i + 2 → Ran limit room (spec_events spec (plain_piece spec) r zone) l n l' s.at → Stepped limit room r zone format i l n l' s
  unfolding events_of
  step_letter spec f e w =
      let h = letter_there format (i + 1) spec f in
      let next : s.next ≡ i + 1 + 1 = omega arith in
      step_directive s (plain_piece spec)
      (rw next ((items_at format i).percent (omega arith) p _ (sym (by_turn format (i + 1) (InFlags outset) h (Found (plain_piece spec)) (sym (letter_ends outset None tt _ spec f))))))
      w

module _ {limit room : ℕ} {r : Record} {zone format : List ℕ} {i b : ℕ} {l l' : List ℕ} {n n' : ℕ} where
  pub step_plain : get_or format i 0 ≡ 37 → b ≡ get_or format (i + 1) 0 → RanLetter limit room b r zone l n l' n' → Stepped limit room r zone format i l n l' (record { at = n'; next = i + 2 })
  step_plain p e w = step_letter (record { at = n'; next = i + 2 }) p w.spec (ap spec_of (sym e) ∙ w.entry) refl w.ran

-- what was tried as a letter, and was left alone
pub step_unread : {limit room : ℕ} {r : Record} {zone format : List ℕ} {i : ℕ} {l l' l'' : List ℕ} {n : ℕ} {s : Step} → l' ≡ l → Stepped limit room r zone format i l' n l'' s → Stepped limit room r zone format i l n l'' s
step_unread {limit} {room} {r} {zone} {format} {i} {l'' = l''} {n = n} {s = s} e w = subst (λ (x : List ℕ). Stepped limit room r zone format i x n l'' s) e w
