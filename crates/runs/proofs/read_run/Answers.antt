-- The bytes taken in, what is settled run, and what is pending moved to the front.
use Rattle.runs.proofs.ReadLaws.{run_read}
use Rattle.runs.proofs.read_run.Goals as goal

pub returns : goal.returns
returns c =
    let a = c.args in
    run_read a.s a.zone.now a.«record» a.store.now a.buffer.now a.bytes.now c.requires c.take_in.new.store c.take_in.ensures c.pending_from-from.result c.pending_from-from.ensures _ _ _ _ c.move_front.ensures c.run_from-place.ensures c.came.ensures
