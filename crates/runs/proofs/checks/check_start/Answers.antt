-- The inputs' refusal, or by the store.
use Rattle.std.proofs.lemmas.Result.{err_from_is_err_and}
use Rattle.rules.specs.Refusal.{number_of, number_in_check}
use Rattle.runs.proofs.NumberLaws.{start_inputs, past_store, start_passes}
use Rattle.runs.proofs.checks.check_start.Goals as goal

pub returns-in_err-check_inputs : goal.returns-in_err-check_inputs
unfolding number_in_check
returns-in_err-check_inputs c =
    let a = c.args in
    let e = err_from_is_err_and c.from_residual.result c.from_residual.ensures.1 in
    rw (e.1, e.2) (start_inputs a.total a.zone a.room a.store _ c.in_err-check_inputs.ensures)

pub returns-then-total-store : goal.returns-then-total-store
unfolding number_in_check number_of
returns-then-total-store c =
    let a = c.args in
    past_store a.total a.zone a.room a.store c.in_ok-check_inputs.ensures c.if-total-store.true

pub returns : goal.returns
unfolding number_in_check
returns c =
    let a = c.args in
    start_passes a.total a.zone a.room a.store c.in_ok-check_inputs.ensures c.if-total-store.false
