-- `piece_moves::block_step` meets its contract: the entries of a run, in one piece, or none. Assumes nothing.
use mathlib.Core.Path.{sym, ◌∙◌}
use native.Mathlib.Omega.{arith}
use Rattle.bits.proofs.Eight.{bytes_of}
use Rattle.plans.specs.PlanWords.{to_byte, from_byte}
use Rattle.piece_moves.proofs.Runs.{run_inside, run_each, run_quiet, run_none, begins_inside, begins_piece}
use Rattle.piece_moves.proofs.block_step.Goals as goal

pub returns-then-run-eq0 : goal.returns-then-run-eq0
returns-then-run-eq0 c =
    let a = c.args in
    (omega (arith, c.requires.1), λ words p. run_none p a.i a.src.now a.count a.dst.now)

pub piece_column-requires : goal.piece_column-requires
piece_column-requires c =
    let a = c.args in
    let run = c.run_of-run in
    let within = begins_inside a.plan.now a.i c.entry-e.ensures.0 run.result.bytes a.source_size a.destination_size
    (run_inside c.requires.0.1 a.i (to_byte a.plan.now a.i) (from_byte a.plan.now a.i) run.result.entries run.result.bytes run.ensures.0 (omega (arith, c.if-run-eq0.false)) run.ensures.1) in
    (within.0, within.1, c.requires.2, c.requires.3)

pub returns : goal.returns
returns c =
    let a = c.args in
    let run = c.run_of-run in
    let to = to_byte a.plan.now a.i in
    let from = from_byte a.plan.now a.i in
    let some = c.if-run-eq0.false in
    let bytes = bytes_of a.src.now (λ i. omega (arith, c.type_inv.src i)) in
    let moved = begins_piece a.plan.now a.i c.entry-e.ensures.0 run.result.bytes a.source_size a.destination_size a.src.now a.count a.dst.now c.piece_column.ensures in (
      run.ensures.0,
      λ words p. (
        moved ∙ sym (run_each p a.i to from run.result.entries run.result.bytes run.ensures.0 (omega (arith, some)) run.ensures.1 a.src.now a.count a.dst.now c.requires.2 c.requires.3 bytes),
        run_quiet p a.i to from run.result.entries run.result.bytes run.ensures.0 (omega (arith, some)) run.ensures.1 a.src.now a.count,
      ),
    )
