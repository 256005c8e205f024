-- `leaf_lines::put_leaf` meets its contract. Assumes nothing.
use Rattle.leaf_lines.proofs.Lines.{no_write, line_fits, the_write}
use borrow.Author.Rules.{rules}
use Rattle.leaf_lines.proofs.put_leaf.Goals as goal

pub returns-in_default : goal.returns-in_default
returns-in_default c = search (rules, no_write)

pub put_line-requires : goal.put_line-requires
put_line-requires c =
    line_fits c.args.half.now c.args.type_number c.args.byte c.args.at _ c.leaf_at.ensures c.in-Some.is
    c.type_word-size.ensures c.type_word-class.ensures c.requires.1

pub returns : goal.returns
returns c = search (rules, the_write)
