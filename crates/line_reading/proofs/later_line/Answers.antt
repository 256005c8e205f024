-- `line_reading::later_line` meets its contract. Assumes nothing.
use Rattle.line.specs.Read.{later_kind}
use Rattle.line.proofs.FirstWords.{kind_laws}
use Rattle.line_reading.proofs.later_line.Goals as goal

pub returns-then-word_at : goal.returns-then-word_at
unfolding later_kind
returns-then-word_at c = search kind_laws depth 9

pub returns-then-word_at-2 : goal.returns-then-word_at-2
unfolding later_kind
returns-then-word_at-2 c = search kind_laws depth 9

pub returns-then-word_at-3 : goal.returns-then-word_at-3
unfolding later_kind
returns-then-word_at-3 c = search kind_laws depth 9

pub returns-then-word_at-4 : goal.returns-then-word_at-4
unfolding later_kind
returns-then-word_at-4 c = search kind_laws depth 9

pub returns : goal.returns
unfolding later_kind
returns c = search kind_laws depth 9
