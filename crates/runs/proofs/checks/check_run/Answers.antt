-- The first test that fails. A sum that could wrap is made behind its test.
use Prim.Native.Nat.{◌+◌}
use native.Mathlib.Omega.{arith}
use Rattle.std.proofs.lemmas.Result.{err_from_is_err_and}
use Rattle.rules.specs.Refusal.{number_of, number_in_check}
use Rattle.text.proofs.PlaceLaws.{fits_yes, fits_no}
use Rattle.runs.proofs.NumberLaws.{run_inputs, run_long, run_past_total, run_past_store, run_past_room, run_passes}
use Rattle.runs.proofs.checks.check_run.Goals as goal

pub returns-in_err-check_inputs : goal.returns-in_err-check_inputs
unfolding number_in_check
returns-in_err-check_inputs c =
    let a = c.args in
    let e = err_from_is_err_and c.from_residual.result c.from_residual.ensures.1 in
    rw (e.1, e.2) (run_inputs a.s a.count a.zone a.room a.store _ c.in_err-check_inputs.ensures)

pub returns-then-count-gt-LONGEST_RUN : goal.returns-then-count-gt-LONGEST_RUN
unfolding number_in_check number_of
returns-then-count-gt-LONGEST_RUN c =
    let a = c.args in
    run_long a.s a.count a.zone a.room a.store c.in_ok-check_inputs.ensures c.if-count-gt-LONGEST_RUN.true

pub returns-then-not-fits : goal.returns-then-not-fits
unfolding number_in_check number_of
returns-then-not-fits c =
    let a = c.args in
    let past = fits_no (a.s.kept + a.count) a.s.total c.fits.ensures c.if-not-fits.true in
    run_past_total a.s a.count a.zone a.room a.store c.in_ok-check_inputs.ensures c.if-count-gt-LONGEST_RUN.false (omega (arith, past))

pub returns-then-not-fits-2 : goal.returns-then-not-fits-2
unfolding number_in_check number_of
returns-then-not-fits-2 c =
    let a = c.args in
    let past = fits_no (a.s.passed + (a.s.kept + a.count)) a.s.total c.fits-2.ensures c.if-not-fits-2.true in
    run_past_total a.s a.count a.zone a.room a.store c.in_ok-check_inputs.ensures c.if-count-gt-LONGEST_RUN.false (omega (arith, past))

pub returns-then-end-store : goal.returns-then-end-store
unfolding number_in_check number_of
returns-then-end-store c =
    let a = c.args in
    let within = fits_yes (a.s.passed + (a.s.kept + a.count)) a.s.total c.fits-2.ensures c.if-not-fits-2.false in
    run_past_store a.s a.count a.zone a.room a.store c.in_ok-check_inputs.ensures c.if-count-gt-LONGEST_RUN.false (omega (arith, within)) c.if-end-store.true

pub returns-then-s-room : goal.returns-then-s-room
unfolding number_in_check number_of
returns-then-s-room c =
    let a = c.args in
    let within = fits_yes (a.s.passed + (a.s.kept + a.count)) a.s.total c.fits-2.ensures c.if-not-fits-2.false in
    run_past_room a.s a.count a.zone a.room a.store c.in_ok-check_inputs.ensures c.if-count-gt-LONGEST_RUN.false (omega (arith, within)) c.if-end-store.false c.if-s-room.true

pub returns : goal.returns
unfolding number_in_check number_of
returns c =
    let a = c.args in
    let within = fits_yes (a.s.passed + (a.s.kept + a.count)) a.s.total c.fits-2.ensures c.if-not-fits-2.false in
    run_passes a.s a.count a.zone a.room a.store c.in_ok-check_inputs.ensures c.if-count-gt-LONGEST_RUN.false (omega (arith, within)) c.if-end-store.false c.if-s-room.false
