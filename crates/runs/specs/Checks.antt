-- A call's own checks, by numbers.
use Rattle.std.specs.Prelude.{List, [], ◌∷◌, ◌++◌, ℕ, ◌+◌, ◌≤◌, leb, eqb}
use Rattle.rules.specs.declared.Runs.{Runs}
use Rattle.rules.specs.Record.{longest_format, longest_buffer}
use Rattle.rules.specs.Event.{Event, check}
use Rattle.rules.specs.Format.{inputs}
use Rattle.rules.specs.Runs.{longest_run}

-- behind those of the inputs
abbrev pub start_own : ℕ → ℕ → List Event
start_own total store = check (leb total store) 4 ∷ []

abbrev pub run_own : Runs → ℕ → ℕ → ℕ → List Event
run_own s count room store =
    check (leb count longest_run) 5 ∷ check (leb (s.passed + s.kept + count) s.total) 10 ∷ check (leb (s.kept + count) store) 4 ∷ check (leb s.written room) 4 ∷ []

abbrev pub end_own : Runs → ℕ → List Event
end_own s room = check (eqb (s.passed + s.kept) s.total) 10 ∷ check (leb s.written room) 4 ∷ []

-- all of them
abbrev pub start_checks : ℕ → ℕ → ℕ → ℕ → List Event
start_checks total zone room store = inputs total zone room ++ start_own total store

abbrev pub run_checks : Runs → ℕ → ℕ → ℕ → ℕ → List Event
run_checks s count zone room store = inputs s.total zone room ++ run_own s count room store

abbrev pub end_checks : Runs → ℕ → ℕ → List Event
end_checks s zone room = inputs s.total zone room ++ end_own s room

-- what holds of a run where none fails
pub record Good (s : Runs) (count zone room store : ℕ) : Type 0 where
  pub sum : s.total ≤ longest_format
  pub small : room ≤ longest_buffer
  pub within : s.passed + s.kept + count ≤ s.total
  pub holds : s.kept + count ≤ store
  pub place : s.written ≤ room
