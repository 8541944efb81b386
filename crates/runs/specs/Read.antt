-- What a caller holds after a call that is read.
use Rattle.std.specs.Prelude.{false, List, ℕ, length, take}
use Rattle.rules.specs.declared.Record.{Record}
use Rattle.rules.specs.declared.Runs.{Runs}
use Rattle.rules.specs.Event.{text_of, at, reach_of, tally}
use Rattle.rules.specs.Runs.{Call, Lent, Arrived, limit_for, added, entered, laid, store_by, Held, held, numbers_of}

-- what numbers of a state that is neither refused nor over stand for
abbrev pub unread : Runs → List ℕ → Arrived
unread s store = record { total = s.total; passed = s.passed; pending = take s.kept store; over = false; count = at s.written }

abbrev pub lent_to : List ℕ → Record → List ℕ → List ℕ → Lent
lent_to zone time store buffer = record { zone = zone; time = time; room = length buffer; store = length store }

abbrev pub read_in : List ℕ → Record → Arrived → Call → List ℕ → List ℕ → Held
read_in zone time s c store buffer =
    held (numbers_of (entered (lent_to zone time store buffer) s c (at (reach_of s.count))))
    (store_by s c store (at (reach_of s.count)))
    (laid (reach_of s.count) (reach_of (tally (limit_for s) (length buffer) (added (lent_to zone time store buffer) s c) (at (reach_of s.count)))) (text_of (added (lent_to zone time store buffer) s c)) buffer)
