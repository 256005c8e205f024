-- `pair_words::put_real` meets its contract: by whether there are bits beside the number. Assumes nothing.
use mathlib.Core.Path.{◌∙◌}
use native.Mathlib.Omega.{arith}
use Rattle.easy.proofs.Easy.{order_small}
use Rattle.plans.specs.PlanEntries.{real_words}
use Rattle.pair_words.proofs.put_real.Goals as goal

pub overflow_add-order_code : goal.overflow_add-order_code
overflow_add-order_code c = omega (arith, c.order_code.ensures, order_small c.args.l.order)

pub returns-then-is_whole : goal.returns-then-is_whole
unfolding real_words
returns-then-is_whole c =
    rw (← c.is_whole.ensures, c.if-is_whole.true)
    (c.put_four.ensures ∙ rw (c.route_word-code.ensures, c.order_code.ensures, c.flag_code.ensures, c.flag_code-then-is_whole.ensures, c.sign_beside.ensures))

pub returns : goal.returns
unfolding real_words
returns c = rw (← c.is_whole.ensures, c.if-is_whole.false) c.put_four-2.ensures
