-- `leaf_lines::lines_len` meets its contract. Assumes nothing.
use native.Mathlib.Omega.{arith}
use mathlib.Core.List.{[]}
use borrow.Author.Rules.{rules}
use Rattle.leaf_lines.proofs.Lines.{counted_next, counted_done}
use Rattle.leaf_lines.proofs.lines_len.Goals as goal

pub overflow_add-n : goal.overflow_add-n
overflow_add-n c = omega (arith, (c.leaf_len-n.ensures []).few)

pub loop-b-preserved : goal.loop-b-preserved
loop-b-preserved c = search (rules, counted_next)

pub returns : goal.returns
returns c = counted_done _ _ _ c.loop-b.invariant (search rules) (search rules)
