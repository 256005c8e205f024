-- `staged_record::lay_bytes` meets its contract. Assumes nothing.
use Rattle.staged_record.proofs.Laid.{laid}
use Rattle.staged_record.proofs.lay_bytes.Goals as goal

pub returns : goal.returns
returns c =
    let a = c.args in
    laid a.at a.n a.dst.now a.src.now _ c.copy_bytes.ensures
