-- `read_number`: what is read so far and the bytes from there say what all of them say.
use Rattle.std.proofs.Common.{sym, ◌∙◌, arith, rules}
use Rattle.stamp.proofs.NumberLaws.{nothing, opened, over, whole, other, digit, past}
use Rattle.stamp.proofs.number.read_number.Goals as goal

pub returns-then-is_empty : goal.returns-then-is_empty
returns-then-is_empty c = nothing _ _ (search rules)

pub loop-byte-init : goal.loop-byte-init
loop-byte-init c = opened _ _ (search rules)

pub returns-then-not-is_ascii_digit : goal.returns-then-not-is_ascii_digit
returns-then-not-is_ascii_digit c = other _ _ _ _ c.loop-byte-test.true (sym c.is_ascii_digit.ensures.value ∙ c.if-not-is_ascii_digit.true) ∙ c.loop-byte.invariant

pub returns-in_err-checked_mul : goal.returns-in_err-checked_mul
returns-in_err-checked_mul c =
    let past = past c.args.most c.loop-byte.value c.args.bytes.now _ c.loop-byte-test.true (sym c.is_ascii_digit.ensures.value ∙ c.if-not-is_ascii_digit.false) (omega arith) in
    cc (past, c.loop-byte.invariant)

pub returns-in_err-value : goal.returns-in_err-value
returns-in_err-value c =
    let past = past c.args.most c.loop-byte.value c.args.bytes.now _ c.loop-byte-test.true (sym c.is_ascii_digit.ensures.value ∙ c.if-not-is_ascii_digit.false) (omega arith) in
    cc (past, c.loop-byte.invariant)

pub loop-byte-preserved : goal.loop-byte-preserved
loop-byte-preserved c =
    digit _ c.loop-byte.value _ _ c.loop-byte-test.true (sym c.is_ascii_digit.ensures.value ∙ c.if-not-is_ascii_digit.false) c.in_ok-value.value (omega arith) ∙ c.loop-byte.invariant

pub returns-then-most-value : goal.returns-then-most-value
returns-then-most-value c = over _ _ _ c.if-most-value.true ∙ c.loop-byte.invariant

pub returns : goal.returns
returns c = whole _ _ _ c.loop-byte.byte-index (omega arith) (omega arith) ∙ c.loop-byte.invariant
