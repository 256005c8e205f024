-- `entry_columns::plain_raised` meets its contract. Assumes nothing.
use native.Mathlib.Omega.{arith}
use Rattle.symbol_slots.proofs.Slots.{type_few}
use Rattle.entry_columns.proofs.ByKind.{words_sized, words_read, count_made}
use Rattle.entry_columns.proofs.plain_raised.Goals as goal

pub words_for-w-requires : goal.words_for-w-requires
words_for-w-requires c =
    let a = c.args in
    let v = c.requires.0 in
    let u = c.requires.1 in
    (c.requires.3, c.requires.4, omega (arith, type_few a.source_half.now a.e.source v), type_few a.destination_half.now a.e.destination u, v, u)

pub raised_in-requires : goal.raised_in-requires
raised_in-requires c =
    let a = c.args in
    let v = c.requires.0 in
    let u = c.requires.1 in
    let is = c.words_for-w.ensures.0 in
    (words_sized _ _ v u is, words_read _ _ v u is a.e.from a.source_size c.requires.2, c.requires.5, c.requires.6, c.requires.7, c.requires.8)

pub returns : goal.returns
returns c =
    let a = c.args in
    let v = c.requires.0 in
    let u = c.requires.1 in
    let found = c.words_for-w.ensures in
    let call = c.raised_in.ensures in
    (count_made _ _ v u found.0 a.e.from a.source_size a.src.now c.requires.2 a.count c.requires.8 call.0, call.1, found.1)
