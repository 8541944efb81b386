-- What is read of a line lies within the line, the lent buffers and the ranges of the fields.
use Rattle.std.specs.Prelude.{ℕ, ◌≤◌, ◌<◌, ℤ, pos, negsuc, length, Option, MatchOption, Result}
use Rattle.lines.specs.declared.reader.Reader.{Reader}
use Rattle.rules.specs.declared.Refusal.{Refusal}
use Rattle.rules.specs.Refusal.{numbered}
use Rattle.lines.specs.declared.Case.{Case}

-- less of the line is left than before, and where nothing was read, no more
abbrev pub Shortens : {A : Type 0} → Reader → Option A → Reader → Type 0
Shortens before read after =
    MatchOption read (length after.rest.now ≤ length before.rest.now) (λ _. length after.rest.now < length before.rest.now)

-- from -1 - most to most. negsuc n is -1 - n
abbrev pub FromMost : ℕ → ℤ → Type 0
FromMost most (pos n) = n ≤ most
FromMost most (negsuc n) = n ≤ most

-- one of the answers 0 to 4, whose text lies in a buffer of `room` bytes
abbrev pub AnswerWithin : ℕ → Result ℕ Refusal → Type 0
AnswerWithin room answer = ((numbered answer).number ≤ 4) × ((numbered answer).bytes ≤ room)

-- the lent buffers have `format`, `zone` and `text` bytes
abbrev pub CaseWithin : ℕ → ℕ → ℕ → Case → Type 0
CaseWithin format zone text case =
    (case.format ≤ format) × (case.zone ≤ zone) × (case.room ≤ 65536) × AnswerWithin text case.answer × AnswerWithin case.room case.answer
