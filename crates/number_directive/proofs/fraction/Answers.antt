-- The check, then the digits.
use Rattle.rules.specs.declared.Spec.TheVariants.{Fraction as fraction}
use Rattle.rules.specs.Record.{nanoseconds}
use Rattle.rules.specs.Writing.{fields_of}
use Rattle.text.proofs.RanLaws.{◌then◌}
use Rattle.text.proofs.JudgedLaws.{judged_first}
use Rattle.fields.proofs.Laws.{alone}
use Rattle.number_directive.proofs.fraction.Goals as goal

pub returns : goal.returns
unfolding fields_of
returns c = λ f zone. judged_first (fraction f) _ zone (alone _ zone nanoseconds (c.nanoseconds.ensures zone)) c.verdict-verdict.ensures (c.after_check-next.ensures _ _ _ then c.format_nanoseconds.ensures)
