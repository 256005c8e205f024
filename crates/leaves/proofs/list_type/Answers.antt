-- `leaves::list_type` meets its contract. Assumes nothing.
use Rattle.leaves.proofs.Answers.{lists_room, lists_done}
use borrow.Author.Rules.{rules}
use Rattle.leaves.proofs.list_type.Goals as goal

pub returns-then-list-len : goal.returns-then-list-len
returns-then-list-len c t =
    let s = c.args in
    lists_room s.half.now t s.type_number c.type_word-size.ensures (c.lines_len-len.ensures.0 t) s.list.now (search rules)

pub returns : goal.returns
returns c t =
    let s = c.args in
    lists_done s.half.now t s.type_number c.type_word-size.ensures (c.lines_len-len.ensures.0 t) s.list.now (search rules) (c.put_list.ensures t)
