-- `staged_blocks::last_records` meets its contract. Assumes nothing.
use mathlib.Core.Path.{◌≡◌}
use Prim.Native.Nat.{◌*◌, ◌-◌, ◌+◌, ◌/◌, ◌≤◌}
use native.Mathlib.Nat.{mul-le-mul, div-le_self}
use native.Mathlib.Omega.{arith}
use Rattle.staged_blocks.proofs.Rounded.{up_enough}
use Rattle.staged_blocks.proofs.last_records.Goals as goal

pub overflow_mul-first : goal.overflow_mul-first
overflow_mul-first c =
    let few : c.args.i * c.args.source_size ≤ 268435456 =
    mul-le-mul c.requires.1 c.requires.4 in
    omega (arith, few)

pub overflow_add-first : goal.overflow_add-first
overflow_add-first c =
    let few : c.args.i * c.args.source_size ≤ 268435456 =
    mul-le-mul c.requires.1 c.requires.4 in
    omega (arith, few)

pub overflow_add-first-2 : goal.overflow_add-first-2
overflow_add-first-2 c =
    let few : c.args.i * c.args.source_size ≤ 268435456 =
    mul-le-mul c.requires.1 c.requires.4 in
    omega (arith, few, div-le_self (c.args.i * c.args.source_size + c.args.destination_size - 1) c.args.destination_size)

pub returns-then-first-at_once : goal.returns-then-first-at_once
returns-then-first-at_once c =
    let a = c.args in
    let first = (a.i * a.source_size + a.destination_size - 1) / a.destination_size in
    let back : a.i - (a.i - first) ≡ first = omega (arith, c.if-first-at_once.true) in
    (omega (arith, c.if-first-at_once.true), omega arith, λ more. rw back (up_enough (a.i * a.source_size) a.destination_size c.requires.5))

pub returns : goal.returns
returns c = (c.least.ensures.0, c.least.ensures.2, λ more. absurd (omega (arith, more, c.least.ensures.1)))
