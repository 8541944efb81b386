-- The guess, or one more.
use native.Mathlib.Omega.{arith}
use Rattle.rules.proofs.Dates.{year_guessed, year_short}
use Rattle.calendar.proofs.year_at.Goals as goal

pub returns-then-n-days_of : goal.returns-then-n-days_of
returns-then-n-days_of c = record { begun = year_guessed _; not_over = omega (arith, c.days_of.ensures) }

pub returns-else-n-days_of : goal.returns-else-n-days_of
returns-else-n-days_of c = year_short _ (omega (arith, c.days_of.ensures))
