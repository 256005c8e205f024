-- `leaf_lines::leaf_len` meets its contract. Assumes nothing.
use Rattle.leaf_lines.proofs.Lines.{no_length, the_length}
use borrow.Author.Rules.{rules}
use Rattle.leaf_lines.proofs.leaf_len.Goals as goal

pub returns-in_default : goal.returns-in_default
returns-in_default c = search (rules, no_length)

pub returns : goal.returns
returns c = search (rules, the_length)
