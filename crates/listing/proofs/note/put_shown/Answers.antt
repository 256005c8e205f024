-- `listing::note::put_shown` meets its contract: the first k bytes are written. Assumes nothing.
use native.Mathlib.Omega.{arith}
use borrow.Author.Rules.{rules}
use Rattle.listing.proofs.Writes.{shown_next, shown_done}
use Rattle.listing.proofs.note.put_shown.Goals as goal

pub loop-k-preserved : goal.loop-k-preserved
loop-k-preserved c =
    let a = c.args in
    let l = c.loop-k in
    (search rules, shown_next a.out.now l.out a.at a.line.now l.k l.invariant.1 _ (omega arith) (omega arith) c.show.ensures)

pub returns : goal.returns
returns c =
    let a = c.args in
    let l = c.loop-k in
    shown_done a.out.now l.out a.at a.line.now l.k l.invariant.1 (omega arith) (omega arith)
