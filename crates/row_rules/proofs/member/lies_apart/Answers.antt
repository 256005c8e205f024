-- `row_rules::member::lies_apart` meets its contract. Assumes nothing.
use mathlib.Core.Path.{sym}
use native.Mathlib.Omega.{arith}
use Rattle.sheet_steps.proofs.Notes.{apart_behind}
use Rattle.row_rules.proofs.member.lies_apart.Goals as goal

pub returns-then-end_of-offset : goal.returns-then-end_of-offset
returns-then-end_of-offset c =
    let a = c.args in
    sym (apart_behind a.half.now a.first a.offset a.width a.n _ c.requires.5 (omega (arith, c.if-end_of-offset.true, c.end_of.ensures.is)))
