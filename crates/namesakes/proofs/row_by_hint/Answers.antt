-- `namesakes::row_by_hint` meets its contract. Assumes nothing.
use Rattle.namesakes.proofs.Named.{hint_laws}
use Rattle.namesakes.proofs.row_by_hint.Goals as goal

pub is_named-requires : goal.is_named-requires
is_named-requires c = search hint_laws

pub returns-then-is_named : goal.returns-then-is_named
returns-then-is_named c = search hint_laws

pub marked-above-requires : goal.marked-above-requires
marked-above-requires c = search hint_laws

pub overflow_sub-noted : goal.overflow_sub-noted
overflow_sub-noted c = search hint_laws

pub is_named-requires-then-above-gt0 : goal.is_named-requires-then-above-gt0
is_named-requires-then-above-gt0 c = search hint_laws

pub returns-then-is_named-2 : goal.returns-then-is_named-2
returns-then-is_named-2 c = search hint_laws

pub row_named-requires : goal.row_named-requires
row_named-requires c = search hint_laws

pub returns : goal.returns
returns c = search hint_laws
