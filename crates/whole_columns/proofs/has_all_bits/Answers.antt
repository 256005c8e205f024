-- `whole_columns::has_all_bits` meets its contract. Assumes nothing.
use mathlib.Core.Path.{ap, ◌∙◌}
use Prim.Native.Nat.{ℕ, ◌-◌, ◌^◌}
use borrow.Author.Tests.{eqb-true}
use Rattle.whole_columns.proofs.has_all_bits.Goals as goal

pub returns : goal.returns
returns c e = eqb-true _ _ e ∙ c.ones.ensures ∙ ap (λ (k : ℕ). 2 ^ k - 1) c.bits_of-k.ensures
