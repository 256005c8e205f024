-- `compare_frames::list_planned` meets its contract. Assumes nothing.
use native.Mathlib.Omega.{arith}
use Rattle.compare_frames.proofs.Listed.{no_room, list_written, header_written}
use Rattle.compare_frames.proofs.list_planned.Goals as goal

pub returns-then-list-len : goal.returns-then-list-len
returns-then-list-len c g =
    let a = c.args in
    no_room a.x.count a.first.now a.second.now a.list.now g.planned.job.source g.planned.job.destination (c.list_len-len.ensures g) c.if-list-len.true

pub returns-then-len-eq-HEADER : goal.returns-then-len-eq-HEADER
returns-then-len-eq-HEADER c g =
    let a = c.args in
    header_written a.x.count a.first.now a.second.now a.list.now g.planned.job.source g.planned.job.destination (c.list_len-len.ensures g) c.if-list-len.false c.if-len-eq-HEADER.true c.put_header.ensures

pub put_list-requires : goal.put_list-requires
put_list-requires c = (c.requires, λ g. omega (arith, c.list_len-len.ensures g, c.if-list-len.false))

pub returns : goal.returns
returns c g =
    let a = c.args in
    list_written a.x.count a.first.now a.second.now a.list.now g.planned.job.source g.planned.job.destination (c.list_len-len.ensures g) c.if-list-len.false (c.put_list.ensures g)
