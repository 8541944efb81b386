-- A check that passes leaves the place; one that refuses stops the run.
use mathlib.Core.Path.{refl, sym}
use borrow.Author.Tests.{eq-eqb}
use Rattle.text.proofs.JudgedLaws.{check_refused, check_passed, after_number}
use Rattle.text.proofs.RanLaws.{nothing, told, checks_hold}
use Rattle.text.proofs.after_check.Goals as goal

pub returns-in-Err : goal.returns-in-Err
returns-in-Err c = λ limit room l. after_number (check_refused refl c.in-Err.is) (c.refused_at.ensures limit room l)

pub returns : goal.returns
returns c = λ limit room l. told (sym (eq-eqb _ 0 (check_passed refl c.in_default.is))) (checks_hold nothing)
