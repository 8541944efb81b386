-- The first test that fails.
use Prim.Native.Nat.{◌+◌}
use native.Mathlib.Omega.{arith}
use Rattle.std.proofs.lemmas.Result.{err_from_is_err_and}
use Rattle.rules.specs.Refusal.{number_of, number_in_check}
use Rattle.text.proofs.PlaceLaws.{fits_no}
use Rattle.runs.proofs.NumberLaws.{end_inputs, end_other_total, end_past_room, end_passes}
use Rattle.runs.proofs.checks.check_end.Goals as goal

pub returns-in_err-check_inputs : goal.returns-in_err-check_inputs
unfolding number_in_check
returns-in_err-check_inputs c =
    let a = c.args in
    let e = err_from_is_err_and c.from_residual.result c.from_residual.ensures.1 in
    rw (e.1, e.2) (end_inputs a.s a.zone a.room _ c.in_err-check_inputs.ensures)

pub returns-then-not-fits : goal.returns-then-not-fits
unfolding number_in_check number_of
returns-then-not-fits c =
    let a = c.args in
    let past = fits_no (a.s.passed + a.s.kept) a.s.total c.fits.ensures c.if-not-fits.true in
    end_other_total a.s a.zone a.room c.in_ok-check_inputs.ensures (λ e. omega (arith, past, e))

pub returns-then-s : goal.returns-then-s
unfolding number_in_check number_of
returns-then-s c =
    let a = c.args in
    end_other_total a.s a.zone a.room c.in_ok-check_inputs.ensures c.if-s.true

pub returns-then-s-room : goal.returns-then-s-room
unfolding number_in_check number_of
returns-then-s-room c =
    let a = c.args in
    end_past_room a.s a.zone a.room c.in_ok-check_inputs.ensures c.if-s.false c.if-s-room.true

pub returns : goal.returns
unfolding number_in_check number_of
returns c =
    let a = c.args in
    end_passes a.s a.zone a.room c.in_ok-check_inputs.ensures c.if-s.false c.if-s-room.false
