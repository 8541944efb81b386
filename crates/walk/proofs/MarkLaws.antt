-- A directive of two bytes: `-` and a letter, a colon and `z`; and the step of the walk that it is.
use Rattle.std.specs.Prelude.{None}
use mathlib.Core.Path.{◌≡◌, sym, ap, ◌∙◌}
use mathlib.Core.List.{List, [], ◌∷◌}
use Prim.Native.Nat.{ℕ, ◌+◌, ◌<◌}
use native.Mathlib.Omega.{arith}
use lib.IntN.{pos}
use lib.ListN.{length, get_or}
use Rattle.rules.specs.declared.Offset.TheVariants.{TimeZoneOffsetHourMinuteColon}
use Rattle.rules.specs.declared.Piece.{Piece}
use Rattle.rules.specs.declared.Record.{Record}
use Rattle.rules.specs.declared.Reading.{Reading}
use Rattle.rules.specs.declared.Reading.TheVariants.{InFlags, InColons}
use Rattle.rules.specs.declared.Spec.TheVariants.{Offset as offset}
use Rattle.rules.specs.declared.Turn.TheVariants.{More, Found}
use Rattle.rules.specs.Decimal.{decimal_text}
use Rattle.rules.specs.Event.{put, write}
use Rattle.rules.specs.Reading.{outset, on_flag, spec_of, on_letter, on_colons, turn}
use Rattle.rules.specs.Writing.{spec_events, events_of}
use Rattle.rules.proofs.LetterLaws.{letter_ends}
use Rattle.text.specs.Ran.{Ran}
use Rattle.printing.specs.Plain.{plain_piece}
use Rattle.reading.proofs.Laws.{by_turn}
use Rattle.reading.proofs.Positions.{items_at}
use Rattle.letters.specs.Short.{left_flag, left_piece, Short}
use Rattle.walk.specs.declared.Step.{Step}
use Rattle.walk.specs.Steps.{Stepped}
use Rattle.walk.proofs.LetterLaws.{byte_there, letter_there}
use Rattle.walk.proofs.WalkLaws.{step_directive}

-- ## The bytes

-- after `-`, after a colon, and after a colon and `z`
left_mark : {b : ℕ} → b ≡ 45 → More (InFlags left_flag) ≡ turn (InFlags outset) b
unfolding turn on_flag
left_mark e = sym (ap (turn (InFlags outset)) e)

colon_mark : {b : ℕ} → b ≡ 58 → More (InColons outset None 1) ≡ turn (InFlags outset) b
unfolding turn on_flag on_letter
colon_mark e = sym (ap (turn (InFlags outset)) e)

colon_end : {b : ℕ} → b ≡ 122 → Found (plain_piece (offset TimeZoneOffsetHourMinuteColon)) ≡ turn (InColons outset None 1) b
unfolding turn on_colons
colon_end e = sym (ap (turn (InColons outset None 1)) e)

-- ## The step

module _ {limit room : ℕ} {r : Record} {zone format : List ℕ} {i : ℕ} {l l' : List ℕ} {n : ℕ} (s : Step) (q : get_or format i 0 ≡ 37) where
  by_two : (x : Reading) (p : Piece) → i + 2 < length format → More x ≡ turn (InFlags outset) (get_or format (i + 1) 0) → Found p ≡ turn x (get_or format (i + 2) 0) → s.next ≡ i + 3 → Ran limit room (events_of r zone p) l n l' s.at → Stepped limit room r zone format i l n l' s
  by_two x p h t u e w =
      let second : i + 2 ≡ i + 1 + 1 = omega arith in
      let next : s.next ≡ i + 1 + 1 + 1 = omega arith in
      step_directive s p
      (rw next ((items_at format i).percent (omega arith) q _
      (sym (by_turn format (i + 1) (InFlags outset) (omega arith) (More x) t) ∙ sym (by_turn format (i + 1 + 1) x (omega arith) (Found p) (rw second at u)))))
      w

  -- `-` and a letter
  pub step_short : {a b v : ℕ} → a ≡ get_or format (i + 1) 0 → a ≡ 45 → b ≡ get_or format (i + 2) 0 → Short r b v → s.next ≡ i + 3 → Ran limit room (write (put (decimal_text (pos v))) ∷ []) l n l' s.at → Stepped limit room r zone format i l n l' s
  unfolding events_of
  step_short f g h k e w =
      let entry = ap spec_of (sym h) ∙ k.entry in
      by_two (InFlags left_flag) (left_piece k.spec) (letter_there format (i + 2) k.spec entry) (left_mark (sym f ∙ g)) (sym (letter_ends left_flag None tt _ k.spec entry)) e (k.runs zone w)

  -- a colon and `z`
  pub step_colon : {a b : ℕ} → a ≡ get_or format (i + 1) 0 → a ≡ 58 → b ≡ get_or format (i + 2) 0 → b ≡ 122 → s.next ≡ i + 3 → Ran limit room (spec_events (offset TimeZoneOffsetHourMinuteColon) (plain_piece (offset TimeZoneOffsetHourMinuteColon)) r zone) l n l' s.at → Stepped limit room r zone format i l n l' s
  unfolding events_of
  step_colon f g h k e w =
      by_two (InColons outset None 1) (plain_piece (offset TimeZoneOffsetHourMinuteColon)) (byte_there format (i + 2) (λ z. omega arith)) (colon_mark (sym f ∙ g)) (colon_end (sym h ∙ k)) e w
