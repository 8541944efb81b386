-- An answer repeated, a check that fails, or what is pending read as the end of the format.
use mathlib.Core.Path.{refl, sym}
use native.Mathlib.Omega.{arith}
use lib.ListN.{length}
use Rattle.rules.specs.Refusal.{number_in_check}
use Rattle.rules.specs.Runs.{close}
use Rattle.runs.proofs.NumberLaws.{end_good}
use Rattle.runs.proofs.ReadLaws.{end_read}
use Rattle.runs.proofs.EntryLaws.{kept_fits, after_end, after_refusal, end_own_lem, end_through}
use Rattle.runs.proofs.end.Goals as goal

pub returns-then-was : goal.returns-then-was
returns-then-was c =
    let a = c.args in
    after_end a.zone.now a.«record» a.s a.store.now a.buffer.now _ (c.as_read-was.ensures _ refl) close c.if-was.true

pub returns-then-was-ne0 : goal.returns-then-was-ne0
returns-then-was-ne0 c =
    let a = c.args in
    after_refusal a.zone.now a.«record» a.s a.store.now a.buffer.now _ (c.as_read-was.ensures _ refl) close c.if-was-ne0.true

pub returns-in-Err : goal.returns-in-Err
unfolding number_in_check
returns-in-Err c =
    let a = c.args in
    end_own_lem a.zone.now a.«record» a.s a.store.now a.buffer.now _ (c.as_read-was.ensures _ refl) c.if-was.false c.if-was-ne0.false _ c.in-Err.ensures _ c.refused.ensures

pub overflow_mul-was : goal.overflow_mul-was
unfolding number_in_check
overflow_mul-was c =
    let a = c.args in
    let g = end_good c.as_read-was.result (length a.zone.now) (length a.buffer.now) (sym c.in_default.ensures) in
    omega (arith, g.sum)

pub run_from-place-requires : goal.run_from-place-requires
unfolding number_in_check
run_from-place-requires c =
    let a = c.args in
    let g = end_good c.as_read-was.result (length a.zone.now) (length a.buffer.now) (sym c.in_default.ensures) in
    (record { within = omega arith; small = g.small }, omega arith)

pub returns : goal.returns
unfolding number_in_check
returns c =
    let a = c.args in
    let g = end_good c.as_read-was.result (length a.zone.now) (length a.buffer.now) (sym c.in_default.ensures) in
    end_through a.zone.now a.«record» a.s a.store.now a.buffer.now _ (c.as_read-was.ensures _ refl) c.if-was.false c.if-was-ne0.false c.in_default.ensures _
    (end_read c.as_read-was.result a.zone.now a.«record» a.store.now a.buffer.now (kept_fits a.zone.now a.«record» a.s a.store.now a.buffer.now _ (c.as_read-was.ensures _ refl)) g _ _ _ c.run_from-place.ensures c.came.ensures)
