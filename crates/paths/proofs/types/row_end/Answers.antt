-- `paths::types::row_end` meets its contract. Assumes nothing.
use Prim.Native.Nat.{ℕ, ◌+◌}
use mathlib.Core.Path.{ap, ap₂, ◌∙◌}
use Rattle.table.specs.Table.{size_word}
use Rattle.paths.proofs.types.row_end.Goals as goal

pub returns : goal.returns
returns c =
    let a = c.args in
    ap₂ (λ (o z : ℕ). o + z) c.row_word-offset.ensures.is
    (c.type_word.ensures.is ∙ ap (size_word a.half.now) c.row_word-k.ensures.is)
