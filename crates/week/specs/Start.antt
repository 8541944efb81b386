-- The day that starts a week, as a number of days from Sunday.
use Rattle.std.specs.Prelude.{ℕ}
use Rattle.week.specs.declared.WeekStart.{WeekStart}
use Rattle.week.specs.declared.WeekStart.TheVariants.{Sunday, Monday}

abbrev pub start_of : WeekStart → ℕ
start_of Sunday = 0
start_of Monday = 1
