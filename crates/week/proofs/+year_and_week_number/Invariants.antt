-- The restarts left are the measure.
use Rattle.week.proofs.+year_and_week_number.Given as goal

abbrev pub decreases-year_and_week_number : goal.decreases-year_and_week_number
decreases-year_and_week_number l = l.restarts
