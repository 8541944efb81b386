-- An answer repeated, a check that fails, or the run read.
use mathlib.Core.Path.{refl, sym}
use lib.ListN.{length}
use Rattle.rules.specs.Refusal.{number_in_check}
use Rattle.rules.specs.Runs.{bring}
use Rattle.runs.proofs.NumberLaws.{run_good}
use Rattle.runs.proofs.EntryLaws.{after_end, after_refusal, run_own_lem, run_through}
use Rattle.runs.proofs.run.Goals as goal

pub returns-then-was : goal.returns-then-was
returns-then-was c =
    let a = c.args in
    after_end a.zone.now a.«record» a.s a.store.now a.buffer.now _ (c.as_read-was.ensures _ refl) (bring a.bytes.now) c.if-was.true

pub returns-then-was-ne0 : goal.returns-then-was-ne0
returns-then-was-ne0 c =
    let a = c.args in
    after_refusal a.zone.now a.«record» a.s a.store.now a.buffer.now _ (c.as_read-was.ensures _ refl) (bring a.bytes.now) c.if-was-ne0.true

pub returns-in-Err : goal.returns-in-Err
unfolding number_in_check
returns-in-Err c =
    let a = c.args in
    run_own_lem a.zone.now a.«record» a.s a.store.now a.buffer.now _ (c.as_read-was.ensures _ refl) a.bytes.now c.if-was.false c.if-was-ne0.false _ c.in-Err.ensures _ c.refused.ensures

pub read_run-requires : goal.read_run-requires
unfolding number_in_check
read_run-requires c =
    let a = c.args in
    run_good _ (length a.bytes.now) (length a.zone.now) (length a.buffer.now) (length a.store.now) (sym c.in_default.ensures)

pub returns : goal.returns
unfolding number_in_check
returns c =
    let a = c.args in
    run_through a.zone.now a.«record» a.s a.store.now a.buffer.now _ (c.as_read-was.ensures _ refl) a.bytes.now c.if-was.false c.if-was-ne0.false c.in_default.ensures _ c.read_run.ensures
