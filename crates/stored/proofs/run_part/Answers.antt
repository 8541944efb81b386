-- Literal bytes; a letter; or any other directive.
use native.Mathlib.Omega.{arith}
use Rattle.letters.proofs.LetterLaws.{was_letter, left_alone, room_left}
use Rattle.stored.proofs.EntryLaws.{by_letter, by_other}
use Rattle.stored.proofs.StepLaws.{text_fits, must_name, piece_fits, piece_there, ran_text, ran_piece}
use Rattle.stored.proofs.run_part.Goals as goal

pub put_part-requires : goal.put_part-requires
put_part-requires c =
    let p = c.requires in
    let n = text_fits p.2 p.4 p.3 c.two_at-n.ensures.same c.if-stored-i-eq0.true in
    (p.0, omega arith, omega (arith, p.2.behind, p.2.within))

pub returns-then-stored-i-eq0 : goal.returns-then-stored-i-eq0
returns-then-stored-i-eq0 c =
    let p = c.requires in
    ran_text p.2 p.4 p.3 c.two_at-n.ensures.same _ _ c.if-stored-i-eq0.true (c.put_part.ensures _)

pub plain_code-code-requires : goal.plain_code-code-requires
plain_code-code-requires c =
    let p = c.requires in
    let n = c.two_at-n.ensures.same in
    omega (arith, c.entry_at-entry.ensures, p.1.directives, piece_there p.2 p.4 n (must_name p.2 p.4 p.3 n c.if-stored-i-eq0.false) p.1 (omega (arith, p.1.directives, piece_fits p.2 p.4 p.3 n c.if-stored-i-eq0.false)))

pub marked_entry-requires : goal.marked_entry-requires
marked_entry-requires c =
    let p = c.requires in
    let n = c.two_at-n.ensures.same in
    (room_left c.letter-place.ensures p.0, omega (arith, c.entry_at-entry.ensures, piece_there p.2 p.4 n (must_name p.2 p.4 p.3 n c.if-stored-i-eq0.false) p.1 (omega (arith, p.1.directives, piece_fits p.2 p.4 p.3 n c.if-stored-i-eq0.false))))

pub returns-then-place-eq-NOT_A_LETTER : goal.returns-then-place-eq-NOT_A_LETTER
returns-then-place-eq-NOT_A_LETTER c =
    let p = c.requires in
    let v = by_other (left_alone c.letter-place.ensures p.0.small c.if-place-eq-NOT_A_LETTER.true) c.marked_entry.ensures in
    ran_piece p.2 p.4 p.3 c.two_at-n.ensures.same _ _ c.if-stored-i-eq0.false p.1 (rw c.entry_at-entry.ensures at v)

pub returns : goal.returns
returns c =
    let p = c.requires in
    let v = by_letter _ _ _ c.plain_code-code.ensures (omega arith) (was_letter c.letter-place.ensures c.if-place-eq-NOT_A_LETTER.false) in
    ran_piece p.2 p.4 p.3 c.two_at-n.ensures.same _ _ c.if-stored-i-eq0.false p.1 (rw c.entry_at-entry.ensures at v)
