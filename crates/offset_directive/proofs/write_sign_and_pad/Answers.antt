-- A pad of spaces and the sign, or the sign and a pad of zeros.
use Rattle.rules.specs.Offset.{sign_and_pad}
use Rattle.text.proofs.RanLaws.{◌then◌}
use Rattle.offset_directive.proofs.write_sign_and_pad.Goals as goal

pub returns-then-spaces : goal.returns-then-spaces
unfolding sign_and_pad
returns-then-spaces c = rw c.if-spaces.true (c.pad-sign.ensures then c.write_hour_sign.ensures _)

pub returns : goal.returns
unfolding sign_and_pad
returns c = rw c.if-spaces.false (c.write_hour_sign-zeros.ensures _ then c.pad.ensures)
