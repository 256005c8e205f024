-- `paths::dimensions::are_equal` meets its contract. The loop's invariant: all before dimension q are equal, so what is left decides. Assumes nothing.
use Prim.Native.Nat.{◌-◌}
use native.Mathlib.Omega.{arith}
use borrow.Author.Rules.{rules}
use Rattle.paths.proofs.SameDimensions.{equal_start, equal_none, equal_differ, equal_end, equal_go_on}
use Rattle.paths.proofs.dimensions.are_equal.Goals as goal

ruleset laws = (rules, equal_start, equal_none, equal_differ, equal_end, equal_go_on)

pub loop-q-init : goal.loop-q-init
loop-q-init c = search laws

pub returns-then-a-q : goal.returns-then-a-q
returns-then-a-q c = search laws

pub returns-then-a-q-eq0 : goal.returns-then-a-q-eq0
returns-then-a-q-eq0 c = search laws

pub loop-q-preserved : goal.loop-q-preserved
loop-q-preserved c = search laws

pub returns : goal.returns
returns c = search laws
