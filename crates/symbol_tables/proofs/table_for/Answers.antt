-- `symbol_tables::table_for` meets its contract. Assumes nothing.
use mathlib.Core.Path.{refl}
use mathlib.Core.Bool.{false≢true}
use Rattle.symbol_tables.proofs.Steps.{cleared, made_kept}
use native.Mathlib.Omega.{arith}
use Rattle.symbol_tables.proofs.table_for.Goals as goal

pub returns-then-put_table : goal.returns-then-put_table
returns-then-put_table c =
    let a = c.args in
    let made = c.put_table.ensures c.if-put_table.true in
    ((λ p kept. made_kept c.put_table.new.table a.source_half.now p.source_text a.destination_half.now p.destination_text a.source_type a.destination_type c.requires.2 refl made.0 (made.1 p)), λ e. made.0)

pub returns : goal.returns
returns c =
    let a = c.args in
    ((λ p kept. cleared c.put_table.new.table a.source_half.now p.source_text a.destination_half.now p.destination_text (omega arith)), λ e. absurd (false≢true e))
