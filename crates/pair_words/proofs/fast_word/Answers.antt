-- `pair_words::fast_word` meets its contract. Assumes nothing.
use mathlib.Core.Path.{◌∙◌}
use native.Mathlib.Omega.{arith}
use Rattle.easy.proofs.Easy.{order_small}
use Rattle.pair_words.proofs.fast_word.Goals as goal

pub overflow_add-order_code : goal.overflow_add-order_code
overflow_add-order_code c = omega (arith, c.order_code.ensures, order_small c.args.l.order)

pub route_word-requires : goal.route_word-requires
route_word-requires c = (omega (arith, c.order_code.ensures, order_small c.args.l.order), c.requires.0, c.requires.1)

pub returns : goal.returns
returns c = c.route_word.ensures ∙ rw c.order_code.ensures
