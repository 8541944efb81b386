-- A C caller's numbers between two runs, and the answer, as the rules have them.
use Rattle.std.specs.Prelude.{cond, not, List, ℕ, eqb}
use Rattle.rules.specs.declared.Runs.{Runs}
use Rattle.rules.specs.Runs.{Said, more, ended, Held}
use Rattle.groatsaddle.specs.declared.by_runs.GsRuns.{GsRuns}
use Rattle.groatsaddle.specs.declared.by_runs.GsProgress.{GsProgress}

-- the same numbers; `over` is yes unless it is 0
unfoldable pub runs_from : GsRuns → Runs
runs_from s =
    record { total = s.total; passed = s.passed; kept = s.kept; written = s.written; number = s.number; over = not (eqb s.over 0) }

-- and back: `over` is 1 or 0
unfoldable pub runs_to : Runs → GsRuns
runs_to s =
    record { total = s.total; passed = s.passed; kept = s.kept; written = s.written; number = s.number; over = cond s.over 1 0 }

-- "more" has no number of the table: it is said beside
unfoldable pub progress_to : Said → GsProgress
progress_to more = record { refusal = 0; more = 1; length = 0 }
progress_to (ended report) = record { refusal = report.number; more = 0; length = report.bytes }

-- what a C caller holds after a call
pub record GsHeld : Type 0 where
  pub numbers : GsRuns
  pub store : List ℕ
  pub buffer : List ℕ

abbrev pub gs_held : GsRuns → List ℕ → List ℕ → GsHeld
gs_held numbers store buffer = record { numbers = numbers; store = store; buffer = buffer }

abbrev pub held_to : Held → GsHeld
held_to h = gs_held (runs_to h.numbers) h.store h.buffer
