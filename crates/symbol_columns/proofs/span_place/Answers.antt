-- `symbol_columns::span_place` meets its contract. Assumes nothing.
use Rattle.std.proofs.Common.{arith}
use Rattle.symbol_columns.proofs.Finding.{place_in, place_out}
use Rattle.symbol_columns.proofs.span_place.Goals as goal

pub returns-then-k-entries : goal.returns-then-k-entries
returns-then-k-entries c =
    let a = c.args in
    place_in a.raw a.low a.entries c.wrapping_sub_u64-k.result (omega arith) c.requires (omega arith) c.wrapping_sub_u64-k.ensures.value c.if-k-entries.true

pub returns-else-k-entries : goal.returns-else-k-entries
returns-else-k-entries c =
    let a = c.args in
    place_out a.raw a.low a.entries c.wrapping_sub_u64-k.result (omega arith) c.requires (omega arith) c.wrapping_sub_u64-k.ensures.value (omega (arith, c.if-k-entries.false))
