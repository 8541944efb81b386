-- Each arm goes on as the turn of its byte does.
use mathlib.Core.Path.{sym, ◌∙◌}
use native.Mathlib.Omega.{arith}
use borrow.Author.Rules.{rules}
use Rattle.table.proofs.Laws.{impossible}
use Rattle.reading.proofs.Laws.{by_entry, same_turn, letter_colon, letter_e, letter_o, letter_entry}
use Rattle.reading.proofs.parse_letter.Goals as goal

pub returns-in-58 : goal.returns-in-58
returns-in-58 c = c.parse_colons.ensures ∙ same_turn _ _ _ _ (letter_colon _ _ _ c.in-58.is)

pub returns-in-69 : goal.returns-in-69
returns-in-69 c = c.parse_modified.ensures ∙ same_turn _ _ _ _ (letter_e _ _ _ c.in-69.is)

pub returns-in-79 : goal.returns-in-79
returns-in-79 c = c.parse_modified-in-79.ensures ∙ same_turn _ _ _ _ (letter_o _ _ _ c.in-79.is)

pub returns-then-is_possible : goal.returns-then-is_possible
returns-then-is_possible c =
    c.enter.ensures
    ∙ by_entry _ _ _ _ _ _ _ c.spec_of.ensures _ (letter_entry _ _ _ (search rules) (search rules) (search rules) (omega arith))

pub returns-else-is_possible : goal.returns-else-is_possible
returns-else-is_possible c =
    by_entry _ _ _ _ _ _ _ (sym (impossible _ (sym c.is_possible.ensures ∙ c.if-is_possible.false))) _ (letter_entry _ _ _ (search rules) (search rules) (search rules) (omega arith))
