-- `pair_words::route_word` meets its contract. Assumes nothing.
use Rattle.easy.proofs.Easy.{order_small, shift_small}
use Rattle.pair_words.proofs.route_word.Goals as goal

pub pack-requires : goal.pack-requires
pack-requires c =
    let l = c.args.l in
    let v = c.requires.1 in
    let u = c.requires.2 in (
      c.requires.0,
      rw c.shift_of-shift.ensures (shift_small l.order l.size.0 l.offset.0 l.precision v.sized v.some v.inside),
      v.most,
      u.sized,
      rw c.order_code.ensures (order_small c.args.m.order),
      u.most,
    )
