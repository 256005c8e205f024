-- `symbol_tables::entry_of` meets its contract: by whether the row has a symbol. Assumes nothing.
use lib.Pow.{pow_mono}
use Rattle.symbol_tables.proofs.Steps.{entry_met, entry_missed}
use native.Mathlib.Omega.{arith}
use Rattle.symbol_tables.proofs.entry_of.Goals as goal

pub overflow_add-result : goal.overflow_add-result
overflow_add-result c = omega (arith, c.low_bits-bits.ensures.1, pow_mono {j = 32} c.requires)

pub returns-then-c-eq0 : goal.returns-then-c-eq0
returns-then-c-eq0 c =
    let a = c.args in
    entry_met a.half.now a.precision a.code c.code_bits-c.ensures c.low_bits-bits.ensures.0 c.if-c-eq0.true

pub returns-else-c-eq0 : goal.returns-else-c-eq0
returns-else-c-eq0 c =
    let a = c.args in
    entry_missed a.half.now a.precision a.code c.code_bits-c.ensures c.low_bits-bits.ensures.0 c.if-c-eq0.false
