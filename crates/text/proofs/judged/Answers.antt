-- A verdict of 0 and a refused place leave the place; any other verdict refuses.
use mathlib.Core.Path.{sym}
use native.Mathlib.Omega.{arith}
use borrow.Author.Tests.{eq-eqb, ne_eqb}
use Rattle.text.proofs.PlaceLaws.{reach_no}
use Rattle.text.proofs.CountLaws.{check_refused}
use Rattle.text.proofs.RanLaws.{nothing, told, checks_hold, refused_stays, halted}
use Rattle.text.proofs.judged.Goals as goal

pub returns-then-verdict-eq0 : goal.returns-then-verdict-eq0
returns-then-verdict-eq0 c = λ limit room l. told (sym (eq-eqb _ 0 c.if-verdict-eq0.true)) (checks_hold nothing)

pub returns-then-at-gt-LONGEST_BUFFER : goal.returns-then-at-gt-LONGEST_BUFFER
returns-then-at-gt-LONGEST_BUFFER c = λ limit room l. refused_stays c.if-at-gt-LONGEST_BUFFER.true

pub returns : goal.returns
returns c =
    let e = c.refused.ensures.count in
    λ limit room l. told (sym (ne_eqb _ 0 c.if-verdict-eq0.false)) (halted (check_refused limit room _ _ _ c.if-at-gt-LONGEST_BUFFER.false e) (omega (arith, reach_no _ e)))
