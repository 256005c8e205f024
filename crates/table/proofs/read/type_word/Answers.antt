-- `table::read::type_word` meets its contract. Assumes nothing.
use borrow.Author.Rules.{rules}
use borrow.Author.Tests.{lt-ltb, le-ltb}
use Rattle.table.specs.Table.{type_word}
use Rattle.table.proofs.read.type_word.Goals as goal

pub returns-then-type_number-lt-MOST_TYPES : goal.returns-then-type_number-lt-MOST_TYPES
unfolding type_word
returns-then-type_number-lt-MOST_TYPES c = record { is = rw (lt-ltb _ _ c.if-type_number-lt-MOST_TYPES.true) c.word.ensures.is; small = c.word.ensures.small }

pub returns-else-type_number-lt-MOST_TYPES : goal.returns-else-type_number-lt-MOST_TYPES
unfolding type_word
returns-else-type_number-lt-MOST_TYPES c = record { is = rw (le-ltb _ _ c.if-type_number-lt-MOST_TYPES.false); small = search rules }
