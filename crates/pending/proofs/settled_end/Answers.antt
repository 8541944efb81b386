-- A directive or a closed echo, by what is parsed; else all is pending.
use mathlib.Core.Path.{sym, ◌∙◌}
use native.Mathlib.Omega.{arith}
use Rattle.rules.proofs.PendingEcho.{leaves}
use Rattle.reading.proofs.Positions.{items_at}
use Rattle.pending.proofs.settled_end.Goals.{then-end-text+else-waits, else-end-text}
use Rattle.pending.proofs.settled_end.Goals as goal

pub returns-in-Directive : goal.returns-in-Directive
returns-in-Directive c =
    let read = sym c.parse_spec.ensures ∙ c.in-Directive.is in
    let part = (items_at _ _).percent c.requires.0 c.requires.1 _ read in
    record { onward = part.onward; within = part.within; passes = leaves _ _ c.requires.0 c.requires.1 _ read }

pub returns-in-Echo : goal.returns-in-Echo
returns-in-Echo c =
    let left = leaves _ _ c.requires.0 c.requires.1 _ (sym c.parse_spec.ensures ∙ c.in-Echo.is) in
    left.1.1 (omega (arith, c.if-end-text.true)) (sym c.waits.ensures ∙ c.if-waits.true)

pub returns-in-Echo-2 : goal.returns-in-Echo-2
returns-in-Echo-2 c =
    let read = sym c.parse_spec.ensures ∙ c.in-Echo.is in
    let part = (items_at _ _).percent c.requires.0 c.requires.1 _ read in
    let left = leaves _ _ c.requires.0 c.requires.1 _ read in
    record {
      onward = part.onward;
      within = part.within;
      passes = elim c.if-end-text.branch [
        | then-end-text+else-waits w ↦ left.1.0 (sym w.waits.ensures ∙ w.if-waits.false)
        | else-end-text w ↦ left.0 (omega (arith, part.within, w.if-end-text.false))
      ];
    }

pub returns-in-Cut : goal.returns-in-Cut
returns-in-Cut c = leaves _ _ c.requires.0 c.requires.1 _ (sym c.parse_spec.ensures ∙ c.in-Cut.is)
