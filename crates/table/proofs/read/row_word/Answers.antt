-- `table::read::row_word` meets its contract. Assumes nothing.
use borrow.Author.Rules.{rules}
use borrow.Author.Tests.{lt-ltb, le-ltb}
use Rattle.table.specs.Table.{row_word}
use Rattle.table.proofs.read.row_word.Goals as goal

pub returns-then-row-lt-MOST_ROWS : goal.returns-then-row-lt-MOST_ROWS
unfolding row_word
returns-then-row-lt-MOST_ROWS c = record { is = rw (lt-ltb _ _ c.if-row-lt-MOST_ROWS.true) c.word.ensures.is; small = c.word.ensures.small }

pub returns-else-row-lt-MOST_ROWS : goal.returns-else-row-lt-MOST_ROWS
unfolding row_word
returns-else-row-lt-MOST_ROWS c = record { is = rw (le-ltb _ _ c.if-row-lt-MOST_ROWS.false); small = search rules }
