-- `easy::pack_easy` meets its contract. Assumes nothing.
use mathlib.Core.Path.{◌∙◌}
use native.Mathlib.Omega.{arith}
use Rattle.easy.proofs.Easy.{order_small, shift_small}
use Rattle.easy.proofs.pack_easy.Goals as goal

pub overflow_add-order_code : goal.overflow_add-order_code
overflow_add-order_code c = omega (arith, c.order_code.ensures, order_small c.args.l.order)

pub pack-requires : goal.pack-requires
pack-requires c =
    let l = c.args.l in
    let v = c.requires.0 in (
      omega (arith, c.order_code.ensures, order_small l.order),
      rw c.shift_of-shift.ensures (shift_small l.order l.size.0 l.offset.0 l.precision v.sized v.some v.inside),
      v.most,
      c.requires.1.sized,
      rw c.order_code-2.ensures (order_small c.args.m.order),
      omega arith,
    )

pub returns : goal.returns
returns c = c.pack.ensures ∙ rw (c.order_code-2.ensures, c.order_code.ensures, c.shift_of-shift.ensures)
