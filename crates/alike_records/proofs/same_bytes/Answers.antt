-- `alike_records::same_bytes` meets its contract. The loop's invariant: whether one of the first j bytes differs. Assumes nothing.
use mathlib.Core.Path.{sym}
use native.Mathlib.Omega.{arith}
use lib.Seq.{length-take-le}
use Rattle.alike_records.proofs.SameBytes.{found_start, found_turn, found_whole_lem}
use Rattle.alike_records.proofs.same_bytes.Goals as goal

pub slice_bounds-x-end : goal.slice_bounds-x-end
slice_bounds-x-end c = sym (length-take-le c.args.n c.args.a.now c.requires.0)

pub slice_bounds-y-end : goal.slice_bounds-y-end
slice_bounds-y-end c = sym (length-take-le c.args.n c.args.b.now c.requires.1)

pub loop-j-init : goal.loop-j-init
loop-j-init c = (length-take-le c.args.n c.args.a.now c.requires.0, length-take-le c.args.n c.args.b.now c.requires.1, found_start _ _)

pub loop-j-preserved : goal.loop-j-preserved
loop-j-preserved c =
    let i = c.loop-j.invariant in
    (i.0, i.1, found_turn _ _ c.loop-j.j (omega (arith, i.0)) (omega (arith, i.1)) c.loop-j.other i.2 c.found-other.ensures)

pub returns : goal.returns
returns c = found_whole_lem c.args.a.now c.args.b.now c.args.n c.loop-j.j c.loop-j.other (omega arith) c.loop-j.invariant.2
