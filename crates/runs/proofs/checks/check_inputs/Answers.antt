-- The first test that fails.
use borrow.Author.Tests.{le-leb, lt-leb}
use Rattle.rules.specs.Refusal.{number_of, number_in_check}
use Rattle.rules.proofs.CheckLaws.{first_of}
use Rattle.runs.proofs.checks.check_inputs.Goals as goal
use Rattle.runs.proofs.checks.check_inputs.Goals.{then-total-gt-LONGEST_FORMAT-via-then-total-gt-LONGEST_FORMAT, then-total-gt-LONGEST_FORMAT-via-else-total-gt-LONGEST_FORMAT+then-zone-gt-LONGEST_ZONE, then-total-gt-LONGEST_FORMAT-via-else-total-gt-LONGEST_FORMAT+else-zone-gt-LONGEST_ZONE+then-room-gt-LONGEST_BUFFER}

pub returns-then-total-gt-LONGEST_FORMAT : goal.returns-then-total-gt-LONGEST_FORMAT
unfolding first_of number_in_check number_of
returns-then-total-gt-LONGEST_FORMAT c =
    elim c.then-total-gt-LONGEST_FORMAT.branch [
      | then-total-gt-LONGEST_FORMAT-via-then-total-gt-LONGEST_FORMAT w ↦ simp (lt-leb _ _ w.if-total-gt-LONGEST_FORMAT.true)
      | then-total-gt-LONGEST_FORMAT-via-else-total-gt-LONGEST_FORMAT+then-zone-gt-LONGEST_ZONE w ↦ simp (le-leb _ _ w.if-total-gt-LONGEST_FORMAT.false, lt-leb _ _ w.if-zone-gt-LONGEST_ZONE.true)
      | then-total-gt-LONGEST_FORMAT-via-else-total-gt-LONGEST_FORMAT+else-zone-gt-LONGEST_ZONE+then-room-gt-LONGEST_BUFFER w ↦
          simp (le-leb _ _ w.if-total-gt-LONGEST_FORMAT.false, le-leb _ _ w.if-zone-gt-LONGEST_ZONE.false, lt-leb _ _ w.if-room-gt-LONGEST_BUFFER.true)
    ]

pub returns : goal.returns
unfolding first_of number_in_check
returns c = simp (le-leb _ _ c.if-total-gt-LONGEST_FORMAT.false, le-leb _ _ c.if-zone-gt-LONGEST_ZONE.false, le-leb _ _ c.if-room-gt-LONGEST_BUFFER.false)
