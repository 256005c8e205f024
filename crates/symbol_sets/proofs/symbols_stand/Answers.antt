-- `symbol_sets::symbols_stand` meets its contract. The invariant: the answer is that of the rows that are left. Assumes nothing.
use mathlib.Core.Path.{sym, ◌∙◌}
use native.Mathlib.Omega.{arith}
use Rattle.symbol_sets.proofs.Rows.{stand_start, stand_none, stand_lost, stand_next}
use Rattle.symbol_sets.proofs.symbols_stand.Goals as goal

pub loop-i-init : goal.loop-i-init
loop-i-init c = (stand_start _ _ _ _ c.type_word-first_symbol.ensures c.type_word-n.ensures, omega arith)

pub loop-i-preserved : goal.loop-i-preserved
loop-i-preserved c = (
  c.loop-i.invariant.0 ∙ stand_next _ _ _ _ _ _ _ c.loop-i-test.true c.namesake.ensures c.in-Some.is,
  omega arith,
)

pub returns-in_default : goal.returns-in_default
returns-in_default c = sym (c.loop-i.invariant.0 ∙ stand_lost _ _ _ _ _ _ _ c.loop-i-test.true c.namesake.ensures c.in_default.is)

pub returns : goal.returns
returns c = sym (c.loop-i.invariant.0 ∙ stand_none _ _ _ _ _ c.loop-i-test.false)
