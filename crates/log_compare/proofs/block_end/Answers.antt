-- `log_compare::block_end` meets its contract. Assumes nothing.
use Rattle.log_compare.proofs.Lists.{full_block, last_block}
use Rattle.log_compare.proofs.block_end.Goals as goal

pub returns-then-most-count : goal.returns-then-most-count
returns-then-most-count c = full_block _ _ _ c.requires.1 c.requires.2 c.if-most-count.true

pub returns : goal.returns
returns c = last_block _ _ _ c.requires.1 c.requires.2 c.requires.0 c.if-most-count.false
