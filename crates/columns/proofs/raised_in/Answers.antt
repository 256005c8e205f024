-- `columns::raised_in` meets its contract. Assumes nothing.
use borrow.Author.Rules.{rules}
use native.Mathlib.Omega.{arith}
use Rattle.columns.proofs.Composed.{none_raised}
use Rattle.columns.proofs.raised_in.Goals as goal

pub returns-then-never_raises : goal.returns-then-never_raises
returns-then-never_raises c =
    let a = c.args in
    let none = c.never_raises.ensures c.if-never_raises.true in
    (none_raised a.w none.0 none.1 a.source_byte a.source_size a.src.now a.count, omega arith)

pub raised_32-requires : goal.raised_32-requires
raised_32-requires c =
    let low = c.is_narrow.ensures c.if-is_narrow.true in
    (c.requires.0.narrow low.0 low.1, search rules, search rules, search rules, search rules)
