-- `symbol_slots::put_pair` meets its contract. Assumes nothing.
use mathlib.Core.Path.{sym, subst}
use mathlib.Core.Bool.{false≢true}
use mathlib.Core.List.{List}
use Prim.Native.Nat.{ℕ, ◌*◌, ◌<◌}
use native.Mathlib.Omega.{arith}
use Rattle.symbol_tables.specs.Symbols.{SymbolsKept}
use Rattle.symbol_slots.proofs.Slots.{part_is, part_length, pair_kept, pair_has, pair_stays}
use Rattle.symbol_slots.proofs.put_pair.Goals as goal

pub returns-then-table_at-lt-TABLES : goal.returns-then-table_at-lt-TABLES
returns-then-table_at-lt-TABLES c e =
    let found = c.table_at in
    let here = c.if-table_at-lt-TABLES.true in
    ((λ p kept. kept), (found.result, here, found.ensures.1 here), λ s d has. has)

pub returns-then-free-ge-TABLES : goal.returns-then-free-ge-TABLES
returns-then-free-ge-TABLES c e = absurd (false≢true e)

pub table_for-requires : goal.table_for-requires
table_for-requires c =
    let a = c.args in
    let f = c.find-free.result in
    let few = c.if-free-ge-TABLES.false in
    let kept = c.requires.5 in (
      part_length a.tables.now f (omega (arith, few)) c.requires.0,
      c.requires.1,
      c.requires.2,
      c.requires.3,
      c.requires.4,
      (kept.0, subst (λ (t : List ℕ). SymbolsKept t a.source_half.now kept.0.source_text a.destination_half.now kept.0.destination_text) (sym (part_is (544 * f) a.tables.now)) (kept.1 f (omega (arith, few)))),
    )

pub returns : goal.returns
returns c e =
    let a = c.args in
    let found = c.find-free in
    let f = found.result in
    let few : found.result < 4 = omega (arith, c.if-free-ge-TABLES.false) in
    let call = c.table_for in
    let made = call.new.table in
    let long = c.requires.0 in (
      (λ p kept. pair_kept a.tables.now made f few long call.auto.table a.source_half.now p.source_text a.destination_half.now p.destination_text kept (call.ensures.0 p (subst (λ (t : List ℕ). SymbolsKept t a.source_half.now p.source_text a.destination_half.now p.destination_text) (sym (part_is (544 * f) a.tables.now)) (kept f few)))),
      pair_has a.tables.now made f few long call.auto.table a.e.source a.e.destination (call.ensures.1 e),
      pair_stays a.tables.now made f few long call.auto.table (found.ensures.1 few),
    )
