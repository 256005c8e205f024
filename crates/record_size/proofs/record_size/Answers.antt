-- `record_size::record_size` meets its contract. Assumes nothing.
use native.Mathlib.Omega.{arith}
use mathlib.Core.Path.{refl, sym, ◌∙◌}
use lib.Seq.{length-take-le}
use Rattle.sheet.specs.Sheet.{sheet_of}
use Rattle.record_size.proofs.Answers.{short_answer, long_answer, table_done}
use borrow.Author.Rules.{rules}
use Rattle.record_size.proofs.record_size.Goals as goal

pub returns-then-table-lt-TABLE : goal.returns-then-table-lt-TABLE
returns-then-table-lt-TABLE c = record { answer = short_answer c.args.sheet.now _ (search rules); table = refl }

pub slice_bounds-sheet_size-end-2 : goal.slice_bounds-sheet_size-end-2
slice_bounds-sheet_size-end-2 c = sym (length-take-le 4096 c.args.table.now (omega arith))

pub sheet_size-a-requires : goal.sheet_size-a-requires
sheet_size-a-requires c = length-take-le 4096 c.args.table.now (omega arith)

pub returns : goal.returns
returns c =
    let l = c.sheet_size-a in
    let a = c.args in
    record {
      answer = long_answer a.sheet.now _ (search rules) l.ensures;
      table = c.clear.ensures ∙ table_done a.table.now l.new.half (sheet_of a.sheet.now) l.ensures (l.auto.half ∙ length-take-le 4096 a.table.now (omega arith));
    }
