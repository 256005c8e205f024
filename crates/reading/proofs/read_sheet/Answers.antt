-- `reading::read_sheet` meets its contract. Assumes nothing.
use Rattle.std.proofs.lemmas.Result.{err_from_is_err_and}
use native.Mathlib.Omega.{arith}
use Rattle.sheet_steps.proofs.Loop.{too_long, faulty_line, read_types}
use Rattle.reading.proofs.read_sheet.Goals as goal

pub returns-then-sheet-gt-MOST_TEXT : goal.returns-then-sheet-gt-MOST_TEXT
returns-then-sheet-gt-MOST_TEXT c = too_long _ _ c.requires c.if-sheet-gt-MOST_TEXT.true

pub returns-in_err-counts : goal.returns-in_err-counts
returns-in_err-counts c =
    let p = err_from_is_err_and c.from_residual.result c.from_residual.ensures.1 in
    rw (p.1, p.2) (faulty_line _ _ _ (omega arith) c.read_lines.ensures _ c.in_err-counts.was)

pub returns : goal.returns
returns c = rw c.clear_types.ensures (read_types _ _ _ (omega arith) c.read_lines.ensures _ c.in_ok-counts.was)
