-- `leaf_lines::put_lines` meets its contract. Assumes nothing.
use borrow.Author.Rules.{rules}
use Rattle.leaf_lines.proofs.Lines.{line_room, writing_next, writing_done}
use Rattle.leaf_lines.proofs.put_lines.Goals as goal

pub put_leaf-at-requires : goal.put_leaf-at-requires
put_leaf-at-requires c = search (rules, line_room)

pub loop-byte-preserved : goal.loop-byte-preserved
loop-byte-preserved c = search (rules, writing_next)

pub returns : goal.returns
returns c = search (rules, writing_done)
