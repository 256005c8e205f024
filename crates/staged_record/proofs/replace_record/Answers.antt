-- `staged_record::replace_record` meets its contract: three calls over lent parts, put together by one law. Assumes nothing.
use Prim.Native.Nat.{◌*◌}
use borrow.Author.Rules.{rules}
use Rattle.loops.proofs.Jobs.{ready}
use Rattle.staged_record.proofs.Laid.{one}
use Rattle.staged_record.proofs.replace_record.Goals as goal

pub write_record-requires : goal.write_record-requires
write_record-requires c = ready c.requires.0 (search rules) (search rules)

pub returns : goal.returns
returns c =
    let a = c.args in
    λ j. one j a.buf.now a.background.now _ _ _ _ (a.i * a.source_size) (a.i * a.destination_size) _ c.requires.1 c.requires.2 c.requires.3 c.take_bytes.ensures c.lay_bytes.ensures c.write_record.ensures
