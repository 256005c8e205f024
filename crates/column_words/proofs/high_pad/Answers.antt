-- `column_words::high_pad` meets its contract. Assumes nothing.
use mathlib.Core.Path.{◌≡◌, ap, ◌∙◌}
use Prim.Native.Nat.{ℕ, ◌*◌, ◌^◌, ◌-◌}
use Rattle.column_words.proofs.Parts.{pad_within, pad_high}
use Rattle.column_words.proofs.high_pad.Goals as goal

all_ones : (c : goal.After-ones-2) → c.ones.result ≡ 2 ^ (8 * c.args.l.size.0) - 1
all_ones c = c.ones.ensures ∙ ap (λ (k : ℕ). 2 ^ k - 1) c.bits_of-all.ensures

pub overflow_sub-result : goal.overflow_sub-result
overflow_sub-result c = pad_within c.args.l c.requires (all_ones c) c.ones-2.ensures

pub returns : goal.returns
returns c = pad_high c.args.l c.requires (all_ones c) c.ones-2.ensures
