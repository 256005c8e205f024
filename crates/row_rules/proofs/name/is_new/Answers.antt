-- `row_rules::name::is_new` meets its contract. Assumes nothing.
use Prim.Native.Nat.{ℕ, ◌+◌}
use mathlib.Core.Path.{sym, ap, ◌∙◌}
use native.Mathlib.Omega.{arith}
use lib.ListN.{get_or}
use Rattle.table.specs.Table.{bytes_at}
use Rattle.std.specs.Prelude.{is_none}
use Rattle.sheet_steps.proofs.Notes.{name_new}
use Rattle.row_rules.proofs.name.is_new.Goals as goal

pub returns-then-word-first : goal.returns-then-word-first
returns-then-word-first c =
    let a = c.args in
    let at = c.word.ensures.is ∙ ap (λ (k : ℕ). get_or a.half.now (3072 + k) 0) c.requires.0 in
    sym (ap is_none (name_new a.half.now a.sheet.now (bytes_at a.sheet.now a.start a.len) a.first a.n c.requires.6 (omega (arith, c.if-word-first.true, at))))
