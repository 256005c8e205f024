-- `leaves::leaf_list` meets its contract. Assumes nothing.
use native.Mathlib.Omega.{arith}
use mathlib.Core.Path.{refl, sym, ◌∙◌}
use lib.Seq.{length-take-le}
use Rattle.leaves.proofs.Answers.{short_answer, short_list, long_answer, long_list, table_done}
use borrow.Author.Rules.{rules}
use Rattle.leaves.proofs.leaf_list.Goals as goal

pub returns-then-table-lt-TABLE : goal.returns-then-table-lt-TABLE
returns-then-table-lt-TABLE c =
    let a = c.args in
    record { answer = short_answer a.sheet.now a.list.now _ (search rules); list = short_list a.sheet.now a.list.now _ (search rules); table = refl }

pub slice_bounds-list_sheet-end-2 : goal.slice_bounds-list_sheet-end-2
slice_bounds-list_sheet-end-2 c = sym (length-take-le 4096 c.args.table.now (omega arith))

pub list_sheet-a-requires : goal.list_sheet-a-requires
list_sheet-a-requires c = length-take-le 4096 c.args.table.now (omega arith)

pub returns : goal.returns
returns c =
    let l = c.list_sheet-a in
    let a = c.args in
    record {
      answer = long_answer a.sheet.now a.list.now _ (search rules) l.ensures;
      list = long_list a.sheet.now a.list.now _ (search rules) l.ensures;
      table = c.clear.ensures ∙ table_done a.table.now l.new.half a.sheet.now l.ensures (l.auto.half ∙ length-take-le 4096 a.table.now (omega arith));
    }
