-- `read_signed`, by the first byte.
use Rattle.std.proofs.Common.{◌≡◌, ap, ◌∙◌, arith, Some, None, [], ◌∷◌, ◌+◌}
use Rattle.std.proofs.lemmas.Bool.Decides.{Decides-eqb}
use Rattle.std.proofs.lemmas.Slice.Eq.{strip_prefix_is}
use Rattle.stamp.specs.Numbers.{number_of, positive, negative, signed_of}
use Rattle.stamp.proofs.SignedLaws.{within, unsigned, signed_minus, added, taken}
use Rattle.stamp.proofs.number.read_signed.Goals as goal
use Rattle.stamp.proofs.number.read_signed.Goals.{In-Some, In-None}

minus : (c : In-Some) → negative (number_of (c.args.most + 1) c.in-Some.digits.now) ≡ signed_of c.args.most c.args.bytes.now
minus c = signed_minus _ _ _ (strip_prefix_is Decides-eqb c.args.bytes.now (45 ∷ []) (Some c.in-Some.digits) c.in-Some.ensures.cases)

plain : (c : In-None) → positive (number_of c.args.most c.args.bytes.now) ≡ signed_of c.args.most c.args.bytes.now
plain c = unsigned _ _ (strip_prefix_is Decides-eqb c.args.bytes.now (45 ∷ []) None c.in-None.ensures.cases)

pub returns-in_err-read_number-in-Some : goal.returns-in_err-read_number-in-Some
returns-in_err-read_number-in-Some c =
    c.from_residual.ensures ∙ ap negative c.in_err-read_number-in-Some.ensures ∙ minus (goal.at.returns-in_err-read_number-in-Some c).In-Some

pub returns-in_err-read_number-in-None : goal.returns-in_err-read_number-in-None
returns-in_err-read_number-in-None c =
    c.from_residual-in_err-read_number-in-None.ensures ∙ ap positive c.in_err-read_number-in-None.ensures ∙ plain (goal.at.returns-in_err-read_number-in-None c).In-None

pub returns-in_ok-read_number-in-Some : goal.returns-in_ok-read_number-in-Some
returns-in_ok-read_number-in-Some c =
    let said = c.in_ok-read_number-in-Some.ensures in
    taken _ _ (omega (arith, within _ _ _ said)) c.checked_sub_unsigned.ensures ∙ ap negative said ∙ minus (goal.at.returns-in_ok-read_number-in-Some c).In-Some

pub returns-in_ok-read_number-in-None : goal.returns-in_ok-read_number-in-None
returns-in_ok-read_number-in-None c =
    let said = c.in_ok-read_number-in-None.ensures in
    added _ _ (omega (arith, within _ _ _ said)) c.checked_add_unsigned.ensures ∙ ap positive said ∙ plain (goal.at.returns-in_ok-read_number-in-None c).In-None
