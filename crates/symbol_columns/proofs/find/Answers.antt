-- `symbol_columns::find` meets its contract. The loop's invariant: the steps that are left find the key. Assumes nothing.
use Rattle.std.proofs.Common.{refl, arith}
use Rattle.symbol_columns.proofs.Finding.{finding_start, finding_room, finding_turn, finding_end}
use Rattle.symbol_columns.proofs.find.Goals as goal

pub loop-step-init : goal.loop-step-init
loop-step-init c =
    let a = c.args in
    finding_start a.table.now a.raw

pub step_up-at-requires : goal.step_up-at-requires
step_up-at-requires c =
    let l = c.loop-step in
    (finding_room c.args.table.now c.args.raw l.step l.at (omega arith) l.invariant, c.requires.0, refl)

pub loop-step-preserved : goal.loop-step-preserved
loop-step-preserved c =
    let l = c.loop-step in
    let a = c.args in
    finding_turn a.table.now a.raw l.step l.at (omega arith) l.invariant c.step_up-at.ensures

pub returns : goal.returns
returns c =
    let l = c.loop-step in
    let a = c.args in
    finding_end a.table.now a.raw l.step l.at (omega arith) l.invariant
