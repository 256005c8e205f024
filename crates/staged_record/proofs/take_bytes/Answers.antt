-- `staged_record::take_bytes` meets its contract. Assumes nothing.
use Rattle.staged_record.proofs.Laid.{taken}
use Rattle.staged_record.proofs.take_bytes.Goals as goal

pub returns : goal.returns
returns c =
    let a = c.args in
    taken a.at a.n a.src.now a.dst.now _ c.copy_bytes.ensures
