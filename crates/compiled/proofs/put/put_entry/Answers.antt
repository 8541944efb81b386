-- Eight bytes.
use Rattle.text.proofs.RanLaws.{said}
use Rattle.compiled.proofs.SectionLaws.{entry_bytes_lem}
use Rattle.compiled.proofs.put.put_entry.Goals as goal

pub returns : goal.returns
returns c =
    λ limit. said
    (entry_bytes_lem c.args.piece c.width_value.ensures c.to_le_bytes-width.ensures c.code_of.ensures c.padding_code.ensures c.flags_code.ensures c.present_code.ensures)
    (c.put.ensures limit)
