-- `column_caps::cap_each_31` meets its contract. The loop's invariant: the first i numbers are made, those from i on as they were, and those outside counted. Assumes nothing.
use Rattle.std.proofs.Common.{◌≡◌, arith}
use Rattle.column_steps.proofs.Making.{has_place, ones_fit, made_start, count_start, made_turn, count_turn, over_counts, bias_below, cap_end}
use Rattle.column_caps.proofs.cap_each_31.Goals as goal

pub overflow_cast-half : goal.overflow_cast-half
overflow_cast-half c = record { fits = c.requires.1.half }

pub overflow_cast-mask : goal.overflow_cast-mask
overflow_cast-mask c = record { fits = c.requires.1.mask }

pub overflow_cast-into : goal.overflow_cast-into
overflow_cast-into c = record { fits = c.requires.1.into }

pub overflow_cast-ones : goal.overflow_cast-ones
overflow_cast-ones c = record { fits = ones_fit 32 c.args.w c.requires.1 }

pub overflow_cast-high : goal.overflow_cast-high
overflow_cast-high c = record { fits = c.requires.1.high }

pub loop-i-init : goal.loop-i-init
loop-i-init c =
    let a = c.args in
    (made_start a.w 0 a.w.high a.t.now, count_start a.w 0 a.w.high a.t.now)

pub bias_32-b-requires : goal.bias_32-b-requires
bias_32-b-requires c = c.requires.1.down

pub over_31-raised-requires : goal.over_31-raised-requires
over_31-raised-requires c = (bias_below c.args.w _ 2147483648 c.bias_32-b.ensures c.requires.4, c.requires.5)

pub cap_31-requires : goal.cap_31-requires
cap_31-requires c = (bias_below c.args.w _ 2147483648 c.bias_32-b.ensures c.requires.4, c.requires.5)

pub place_32-requires : goal.place_32-requires
place_32-requires c = has_place 32 c.args.w c.requires.1

pub loop-i-preserved : goal.loop-i-preserved
loop-i-preserved c =
    let l = c.loop-i in
    let a = c.args in
    let b = c.bias_32-b.ensures in (
      made_turn a.w a.t.now l.t l.i b 0 a.w.high l.invariant.0 (omega arith) c.cap_31.ensures c.place_32.ensures,
      count_turn a.w a.t.now l.t l.i b 0 a.w.high (l.invariant.0.2 l.i (omega arith)) l.invariant.1 (over_counts a.w.high _ _ c.over_31-raised.ensures),
    )

pub shape_of-t : goal.shape_of-t
shape_of-t c = c.loop-i.invariant.0.0

pub returns : goal.returns
returns c =
    let l = c.loop-i in
    let a = c.args in
    let end : l.i ≡ a.count = omega arith in
    cap_end a.w a.t.now l.t end c.requires.3 l.invariant.0 l.invariant.1
