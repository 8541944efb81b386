-- One behind the other.
use Rattle.text.proofs.RanLaws.{◌then◌}
use Rattle.compiled.proofs.put.put_counted.Goals as goal

pub returns : goal.returns
returns g c = λ limit. c.put_count-first.ensures limit then c.put_section.ensures limit
