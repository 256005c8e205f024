-- `record_compare::put_record` meets its contract. The loop's invariant: the lines of the first k entries are written. Assumes nothing.
use native.Mathlib.Omega.{arith}
use Rattle.comparing.proofs.ByEntries.{none_wrote, entry_room_lem, wrote_more, entry_formed}
use Rattle.record_compare.proofs.put_record.Goals as goal

pub loop-k-init : goal.loop-k-init
loop-k-init c = none_wrote _ _ _ _ _ _ _ _ _ _

pub put_entry-next-requires : goal.put_entry-next-requires
put_entry-next-requires c =
    let l = c.loop-k in
    let e = c.entry-e.ensures.0 in
    (entry_formed c.requires.0 l.k (omega arith) _ e, entry_room_lem _ _ _ _ _ _ _ _ _ _ e _ _ _ c.requires.1 (omega arith) _ _ l.invariant)

pub loop-k-preserved : goal.loop-k-preserved
loop-k-preserved c =
    let l = c.loop-k in
    wrote_more _ _ _ _ _ _ _ _ _ _ c.entry-e.ensures.0 _ _ _ c.requires.1 (omega arith) _ _ l.invariant _ _ c.put_entry-next.ensures
