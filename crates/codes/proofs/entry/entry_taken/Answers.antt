-- The tests of the rule, one by one.
use native.Mathlib.Omega.{arith}
use Rattle.codes.proofs.EntryLaws.{bad_code, only_code, bad_padding, bad_flags, by_width}
use Rattle.codes.proofs.entry.entry_taken.Goals.{then-s-at-gt2-via-then-s-at-gt2, then-s-at-gt2-via-else-s-at-gt2+then-s-at-gt7}
use Rattle.codes.proofs.entry.entry_taken.Goals as goal

pub returns-then-not-is_known : goal.returns-then-not-is_known
returns-then-not-is_known c = bad_code c.args.s.now c.args.at c.is_known.ensures c.if-not-is_known.true

pub returns-then-eight_at-lt256 : goal.returns-then-eight_at-lt256
returns-then-eight_at-lt256 c = only_code c.args.s.now c.args.at c.is_known.ensures c.if-not-is_known.false c.eight_at.ensures c.if-eight_at-lt256.true

pub returns-then-s-at-gt2 : goal.returns-then-s-at-gt2
returns-then-s-at-gt2 c =
    let known = c.is_known.ensures in
    let yes = c.if-not-is_known.false in
    elim c.then-s-at-gt2.branch [
      | then-s-at-gt2-via-then-s-at-gt2 w ↦ bad_padding c.args.s.now c.args.at known yes w.if-s-at-gt2.true
      | then-s-at-gt2-via-else-s-at-gt2+then-s-at-gt7 w ↦ bad_flags c.args.s.now c.args.at known yes w.if-s-at-gt2.false (omega (arith, w.if-s-at-gt7.true))
    ]

pub returns : goal.returns
returns c = by_width c.args.s.now c.args.at c.is_known.ensures c.if-not-is_known.false c.if-s-at-gt2.false (omega arith) c.four_at.ensures c.width_taken.ensures
