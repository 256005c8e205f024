-- `entry_columns::enum_raised` meets its contract. Assumes nothing.
use Prim.Native.Nat.{◌+◌, ◌*◌}
use native.Mathlib.Omega.{arith}
use Rattle.plans.proofs.LeafSteps.{pair_valid}
use Rattle.symbol_slots.proofs.Slots.{type_few, part_length}
use Rattle.entry_columns.proofs.ByKind.{words_read}
use Rattle.entry_columns.proofs.ByTable.{table_usable, table_fits, table_low, table_raised}
use Rattle.entry_columns.proofs.enum_raised.Goals as goal

pub words_for-w-requires : goal.words_for-w-requires
words_for-w-requires c =
    let a = c.args in
    let valid = pair_valid c.requires.0.2 in
    let few = type_few a.source_half.now a.e.source valid.0 in
    (c.requires.3, c.requires.4, omega (arith, few), type_few a.destination_half.now a.e.destination valid.1, valid.0, valid.1)

pub table_at-k-requires : goal.table_at-k-requires
table_at-k-requires c =
    let a = c.args in
    let valid = pair_valid c.requires.0.2 in
    let few = type_few a.source_half.now a.e.source valid.0 in
    (c.requires.5, omega (arith, few), type_few a.destination_half.now a.e.destination valid.1)

pub slice_bounds-symbols_raised-end : goal.slice_bounds-symbols_raised-end
slice_bounds-symbols_raised-end c = omega (arith, c.table_at-k.ensures.2 c.requires.1, c.requires.5)

pub symbols_raised-requires : goal.symbols_raised-requires
symbols_raised-requires c =
    let a = c.args in
    let job = c.requires.0 in
    let found = c.table_at-k in
    let here = found.ensures.2 c.requires.1 in
    let word = found.ensures.1 here in
    let is = c.words_for-w.ensures.0 in
    let valid = pair_valid job.2 in (
      table_usable job.2 job.3 a.tables.now job.4 found.result here word is,
      table_fits job.2 job.3 a.tables.now job.4 found.result here word is,
      part_length a.tables.now found.result here c.requires.5,
      table_low job.2 job.3 a.tables.now job.4 found.result here word (omega (arith, c.type_inv.tables (544 * found.result + 2))),
      words_read _ _ valid.0 valid.1 is a.e.from a.source_size c.requires.2,
      c.requires.6,
      c.requires.7,
      c.requires.8,
    )

pub returns : goal.returns
returns c =
    let a = c.args in
    let words = c.words_for-w.ensures in
    let found = c.table_at-k in
    let here = found.ensures.2 c.requires.1 in
    let word = found.ensures.1 here in
    let call = c.symbols_raised.ensures in (
      (λ k w p enum kept. table_raised p enum a.tables.now kept found.result here word words.0 a.e.from a.source_size a.src.now c.requires.2 a.count c.requires.8 call.0),
      call.1,
      words.1,
    )
