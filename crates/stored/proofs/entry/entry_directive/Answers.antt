-- A letter, or whatever else it is.
use native.Mathlib.Omega.{arith}
use Rattle.letters.proofs.LetterLaws.{was_letter, left_alone}
use Rattle.stored.proofs.EntryLaws.{by_letter, by_other}
use Rattle.stored.proofs.entry.entry_directive.Goals as goal

pub returns-then-place-eq-NOT_A_LETTER : goal.returns-then-place-eq-NOT_A_LETTER
returns-then-place-eq-NOT_A_LETTER c = by_other (left_alone c.letter-place.ensures c.requires.0.small c.if-place-eq-NOT_A_LETTER.true) c.marked_entry.ensures

pub returns : goal.returns
returns c = by_letter _ _ _ c.plain_code-code.ensures (omega arith) (was_letter c.letter-place.ensures c.if-place-eq-NOT_A_LETTER.false)
