-- `signed_hour`: the sign of each arm times the number is the number with that sign.
use mathlib.Core.Bool.{true, false}
use lib.Ieee.{of_bits, neg}
use Rattle.offset.proofs.HourLaws.{signed_at}
use Rattle.offset.proofs.signed_hour.Goals as goal
use Rattle.offset.proofs.signed_hour.Goals.{then-negative, else-negative}

pub returns : goal.returns
unfolding of_bits neg
returns c =
    elim c.if-negative.branch [
      | then-negative w ↦ signed_at c.args.negative true c.if-negative.sign c.args.hours w.if-negative.true w.sign-is c.ranges.hours.fits
      | else-negative w ↦ signed_at c.args.negative false c.if-negative.sign c.args.hours w.if-negative.false w.sign-is c.ranges.hours.fits
    ]
