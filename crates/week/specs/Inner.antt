-- What the inner functions ask and answer.
use Rattle.std.specs.Prelude.{◌≡◌, ℕ, ◌+◌, ◌*◌, ◌^◌, ◌<◌, ◌≤◌, ℤ, pos, ◌-ℤ◌}
use Rattle.std.specs.Int.Signed.{mag}
use Rattle.rules.specs.declared.IsoWeek.{IsoWeek}
use Rattle.rules.specs.Calendar.{days_in}
use Rattle.rules.specs.Week.{YearAndWeek, start_of_first_week}

-- an answer in the original's numbers
abbrev pub original : IsoWeek → YearAndWeek
original r = record { year = r.year; week = pos r.week }

-- the original's start of the first week, plus 7
pub record FirstWeek (w k first : ℕ) : Type 0 where
  pub is : start_of_first_week (pos w) (pos k) ≡ pos first -ℤ pos 7
  pub to : first ≤ 10

-- a zero-based day of year y, or one of the three days after its last
pub record InYear (y : ℤ) (w k : ℕ) : Type 0 where
  pub small : w ≤ 6
  pub within : k < days_in y + 3

pub record FromWeekOne (y : ℤ) (w k first : ℕ) : Type 0 where
  pub day : InYear y w k
  pub week : FirstWeek w k first
  pub near : mag y ≤ 2 ^ 31

-- with no restart left the day is 4 or later, so that week one has begun
pub record Restarts (y : ℤ) (w d restarts : ℕ) : Type 0 where
  pub small : w ≤ 6
  pub from : 4 ≤ d + 3 * restarts
  pub to : d ≤ days_in y + 3
  pub few : restarts ≤ 1
  pub near : mag y + restarts ≤ 2 ^ 31
