-- `easy::have_words` meets its contract. Assumes nothing.
use Rattle.layout.proofs.Edits.{fails, holds}
use Rattle.layout.proofs.Valid.{facts}
use mathlib.Core.Path.{ap}
use mathlib.Core.Bool.{not}
use Rattle.easy.proofs.have_words.Goals as goal

pub returns-then-not-is_valid : goal.returns-then-not-is_valid
returns-then-not-is_valid c = rw (fails c.is_valid.ensures (ap not c.if-not-is_valid.true))

pub returns-then-not-is_valid-2 : goal.returns-then-not-is_valid-2
returns-then-not-is_valid-2 c = rw (holds c.is_valid.ensures (ap not c.if-not-is_valid.false), fails c.is_valid-2.ensures (ap not c.if-not-is_valid-2.true))

pub is_easy-requires : goal.is_easy-requires
is_easy-requires c = facts _ (holds c.is_valid-2.ensures (ap not c.if-not-is_valid-2.false))

pub returns : goal.returns
returns c = rw (holds c.is_valid.ensures (ap not c.if-not-is_valid.false), holds c.is_valid-2.ensures (ap not c.if-not-is_valid-2.false)) c.is_easy.ensures
