-- `table::store::add_row` meets its contract. Assumes nothing.
use Prim.Native.Nat.{ℕ, ◌+◌, ◌*◌}
use mathlib.Core.Path.{ap₂, ◌∙◌}
use mathlib.Core.List.{List}
use lib.ListN.{set}
use Rattle.table.specs.Records.{row_added}
use Rattle.table.proofs.store.add_row.Goals as goal

pub returns : goal.returns
unfolding row_added
returns c =
    c.put_rows_word.ensures
    ∙ ap₂ (λ (x : List ℕ) (n : ℕ). set x (16 * c.args.type_number + 10) (n + 1)) c.put_row.ensures c.type_word-rows.ensures.is
