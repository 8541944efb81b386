-- A directive, or nothing.
use mathlib.Core.Path.{sym, ◌∙◌}
use mathlib.Core.Logic.{⊎_elim}
use Rattle.reading.proofs.Positions.{items_at}
use Rattle.compiled.proofs.PartLaws.{past_none, percent_here, piece_here, no_echo, cut_none}
use Rattle.compiled.proofs.parts.part_at.Goals as goal

pub returns-then-format-i : goal.returns-then-format-i
returns-then-format-i c = past_none _ c.if-format-i.true

pub returns-in-Directive : goal.returns-in-Directive
returns-in-Directive c = piece_here _ ((items_at _ _).percent c.if-format-i.false (percent_here _ c.text_end-end.ensures c.if-i-end.false c.if-format-i.false) _ (sym c.parse_spec.ensures ∙ c.in-Directive.is))

pub returns-in-Echo : goal.returns-in-Echo
returns-in-Echo c =
    let percent = percent_here _ c.text_end-end.ensures c.if-i-end.false c.if-format-i.false in
    ⊎_elim (λ v. no_echo _ c.text_end-end.ensures c.if-i-end.false ((items_at _ _).percent c.if-format-i.false percent _ (sym c.parse_spec.ensures ∙ v.1)))
    (λ v. cut_none _ ((items_at _ _).percent c.if-format-i.false percent _ (sym c.parse_spec.ensures ∙ v))) c.in-Echo.is
