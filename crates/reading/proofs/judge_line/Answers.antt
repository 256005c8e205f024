-- `reading::judge_line` meets its contract. Assumes nothing.
use Prim.Native.Nat.{◌-◌}
use native.Mathlib.Omega.{arith}
use Rattle.sheet_steps.proofs.Turns.{name_bytes, value_inside, member_inside}
use Rattle.reading.proofs.judge_line.Goals as goal

pub overflow_sub-e : goal.overflow_sub-e
overflow_sub-e c =
    let h = value_inside _ _ c.requires.2 c.in-Value.is in
    omega arith

pub judge_value-requires : goal.judge_value-requires
judge_value-requires c =
    let h = value_inside _ _ c.requires.2 c.in-Value.is in
    (c.requires.0, c.requires.1, omega arith, omega arith)

pub overflow_sub-e-in-Member : goal.overflow_sub-e-in-Member
overflow_sub-e-in-Member c =
    let h = member_inside _ _ c.requires.2 c.in-Member.is in
    omega arith

pub judge_member-requires : goal.judge_member-requires
judge_member-requires c =
    let h = member_inside _ _ c.requires.2 c.in-Member.is in
    (c.requires.0, c.requires.1, omega arith, omega arith)

pub returns-in-Value : goal.returns-in-Value
returns-in-Value c =
    let h = value_inside _ _ c.requires.2 c.in-Value.is in
    rw (c.in-Value.is, ← (name_bytes c.args.sheet.now c.in-Value.a (c.in-Value.e - c.in-Value.a) (omega arith))) c.judge_value.ensures

pub returns-in-Member : goal.returns-in-Member
returns-in-Member c =
    let h = member_inside _ _ c.requires.2 c.in-Member.is in
    rw (c.in-Member.is, ← (name_bytes c.args.sheet.now c.in-Member.a (c.in-Member.e - c.in-Member.a) (omega arith))) c.judge_member.ensures
