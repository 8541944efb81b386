-- Too long; faulty; no room; or the three sections, one behind the other.
use mathlib.Core.Path.{refl}
use native.Mathlib.Omega.{arith}
use Rattle.std.proofs.lemmas.Result.{err_from_is_err_and}
use Rattle.rules.specs.Refusal.{number_in_check}
use Rattle.rules.proofs.Promised.{declined}
use Rattle.rules.proofs.StoredCompiled.{compile_too_long, compile_buffer_too_long}
use Rattle.compiled.proofs.CompileLaws.{fault_refused, total_small, no_room, stored_there}
use Rattle.compiled.proofs.compile.Goals as goal

pub returns-then-format-gt-LONGEST_FORMAT : goal.returns-then-format-gt-LONGEST_FORMAT
returns-then-format-gt-LONGEST_FORMAT c =
    let p = declined c.args.stored.now (compile_too_long _ _ c.if-format-gt-LONGEST_FORMAT.true) in
    record { answer = p.0; stored = p.1 }

pub returns-then-room-gt-LONGEST_BUFFER : goal.returns-then-room-gt-LONGEST_BUFFER
returns-then-room-gt-LONGEST_BUFFER c =
    let p = declined c.args.stored.now (compile_buffer_too_long _ _ c.if-format-gt-LONGEST_FORMAT.false c.if-room-gt-LONGEST_BUFFER.true) in
    record { answer = p.0; stored = p.1 }

pub returns-in_err-fault_of : goal.returns-in_err-fault_of
unfolding number_in_check
returns-in_err-fault_of c =
    let e = err_from_is_err_and c.from_residual.result c.from_residual.ensures.1 in
    let p = fault_refused _ _ c.if-format-gt-LONGEST_FORMAT.false c.if-room-gt-LONGEST_BUFFER.false c.in_err-fault_of.ensures c.args.stored.now _ refl in
    rw (e.1, e.2) (record { answer = p.0; stored = p.1 })

pub overflow_add-literals : goal.overflow_add-literals
overflow_add-literals c = record { fits = omega (arith, total_small _ c.if-format-gt-LONGEST_FORMAT.false c.section_length-literals.ensures c.section_length-directives.ensures c.section_length-steps.ensures) }

pub overflow_add-literals-2 : goal.overflow_add-literals-2
overflow_add-literals-2 c = record { fits = omega (arith, total_small _ c.if-format-gt-LONGEST_FORMAT.false c.section_length-literals.ensures c.section_length-directives.ensures c.section_length-steps.ensures) }

pub overflow_add-literals-3 : goal.overflow_add-literals-3
overflow_add-literals-3 c = record { fits = omega (arith, total_small _ c.if-format-gt-LONGEST_FORMAT.false c.section_length-literals.ensures c.section_length-directives.ensures c.section_length-steps.ensures) }

pub returns-then-room-literals : goal.returns-then-room-literals
unfolding number_in_check
returns-then-room-literals c =
    let p = no_room _ _ c.if-format-gt-LONGEST_FORMAT.false c.if-room-gt-LONGEST_BUFFER.false c.in_ok-fault_of.ensures refl
    c.section_length-literals.ensures c.section_length-directives.ensures c.section_length-steps.ensures c.args.stored.now c.if-room-literals.true in
    record { answer = p.0; stored = p.1 }

pub returns : goal.returns
unfolding number_in_check
returns c =
    let p = stored_there _ _ c.if-format-gt-LONGEST_FORMAT.false c.if-room-gt-LONGEST_BUFFER.false c.in_ok-fault_of.ensures refl
    c.section_length-literals.ensures c.section_length-directives.ensures c.section_length-steps.ensures refl c.if-room-literals.false
    c.put_counted-first.ensures c.put_counted-second.ensures c.put_counted.ensures in
    record { answer = p.0; stored = p.1 }
