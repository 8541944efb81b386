-- The sign with its pad, then the hours.
use Rattle.rules.proofs.DecimalLaws.{digits_counted}
use Rattle.text.proofs.RanLaws.{◌then◌, said}
use Rattle.offset_directive.proofs.write_offset_hour.Goals as goal

pub returns : goal.returns
returns c =
    (rw (c.saturating_sub.ensures, c.length.ensures.places) at c.write_sign_and_pad-first.ensures)
    then said (digits_counted _ c.digit_count.ensures) (c.put_places.ensures _)
