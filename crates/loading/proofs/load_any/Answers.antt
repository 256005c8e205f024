-- `loading::load_any` meets its contract. The invariant: c is the number of the digits from k up, and has no more bits than they have. Assumes nothing.
use Prim.Native.Nat.{◌+◌, ◌*◌, ◌^◌, ◌<◌}
use native.Mathlib.Omega.{arith}
use lib.Dec.{lit<}
use lib.ListN.{get_or}
use Rattle.bits.proofs.Digits.{load_step, step_lt, step_fits}
use Rattle.loading.proofs.load_any.Goals as goal

-- the byte that was read
byte : (c : goal.After-shared_slice_known-in-loop-k-1) → get_or c.args.s.now (c.args.at + c.index_of.result) 0 < 256
byte c = omega (arith, c.type_inv.s (c.args.at + c.index_of.result))

pub overflow_mul-c : goal.overflow_mul-c
overflow_mul-c c =
    let l = c.loop-k in
    let h : l.c * 256 + 0 < 2 ^ 64 = step_fits _ _ _ 0 c.requires.0 c.loop-k-test.true l.auto.k l.invariant.1 (lit< tt) in
    omega arith

pub overflow_add-c : goal.overflow_add-c
overflow_add-c c =
    let l = c.loop-k in
    record { fits = step_fits _ _ _ _ c.requires.0 c.loop-k-test.true l.auto.k l.invariant.1 (byte c) }

pub loop-k-preserved : goal.loop-k-preserved
loop-k-preserved c =
    let a = c.args in
    let l = c.loop-k in
    let t = c.loop-k-test.true in (
      load_step a.s.now a.at a.size a.order c.requires.1 l.k l.c _ t l.auto.k l.invariant.0 c.index_of.ensures.0,
      step_lt _ _ _ _ t l.auto.k l.invariant.1 (byte c),
    )
