-- `entry_columns::entry_column` meets its contract: by the kind of the entry. Assumes nothing.
use mathlib.Core.Path.{refl}
use Rattle.plans.specs.PlanWords.{words_place}
use Rattle.blocks.proofs.Leaves.{numbers_fit}
use Rattle.real_columns.proofs.Over.{reals_fit}
use Rattle.entry_columns.proofs.ByKind.{plain_count, plain_pairs, real_count, real_pairs, real_route}
use Rattle.entry_columns.proofs.ByTable.{enum_route, enum_table, low_route}
use Rattle.entry_columns.proofs.entry_column.Goals as goal

pub enum_column-requires : goal.enum_column-requires
enum_column-requires c =
    let a = c.args in
    let job = c.requires.0 in
    let pair = job.2.pair in
    let is = c.type_word.ensures.is in
    let enum = c.if-type_word-eq-ENUM.true in (
      (words_place job.0, job.1, pair, enum_route pair is enum, job.4),
      enum_table pair is a.tables.now enum job.3,
      job.2.read,
      job.2.write,
      c.requires.2,
      c.requires.3,
      c.requires.1,
      c.requires.4,
      c.requires.6,
      c.requires.7,
      c.requires.8,
    )

pub returns-then-type_word-eq-ENUM : goal.returns-then-type_word-eq-ENUM
returns-then-type_word-eq-ENUM c =
    let is = c.type_word.ensures.is in
    let enum = c.if-type_word-eq-ENUM.true in
    let call = c.enum_column.ensures in
    ((λ i words p has kept. call.0 (words_place i) words p (enum_route p is enum) kept), call.1, call.2)

pub real_column-requires : goal.real_column-requires
real_column-requires c =
    let ready = c.requires.0.2 in
    let low = low_route ready.pair c.type_word.ensures.is c.if-type_word-eq-ENUM.false in
    let fit = reals_fit ready (real_route ready.pair low c.is_one_real.ensures c.if-is_one_real.true) in
    (fit.0, fit.1, fit.2, fit.3, fit.4, c.requires.4, c.requires.6, c.requires.7, c.requires.8)

pub returns-then-is_one_real : goal.returns-then-is_one_real
returns-then-is_one_real c =
    let a = c.args in
    let call = c.real_column.ensures in
    let class = c.type_word.ensures.is in
    let other = c.if-type_word-eq-ENUM.false in
    let is = c.is_one_real.ensures in
    let one = c.if-is_one_real.true in (
      (λ i words p has kept. (
        real_pairs p (low_route p class other) is a.e.from a.source_size a.src.now a.count a.e.to a.destination_size a.dst.now one call.0,
        real_count p (low_route p class other) is a.e.from a.source_size a.src.now a.count one call.1,
      )),
      call.2,
      c.requires.2,
    )

pub plain_column-requires : goal.plain_column-requires
plain_column-requires c =
    let fit = numbers_fit c.requires.0.2 refl refl in
    (fit.0, fit.1, fit.2, fit.3, c.requires.2, c.requires.3, c.requires.4, c.requires.5, c.requires.6, c.requires.7, c.requires.8)

pub returns : goal.returns
returns c =
    let a = c.args in
    let call = c.plain_column.ensures in
    let class = c.type_word.ensures.is in
    let other = c.if-type_word-eq-ENUM.false in
    let is = c.is_one_real.ensures in
    let one = c.if-is_one_real.false in (
      (λ i words p has kept. (
        plain_pairs p (low_route p class other) is a.e.from a.source_size a.src.now a.count a.e.to a.destination_size a.dst.now one call.0,
        plain_count p (low_route p class other) is a.e.from a.source_size a.src.now a.count one call.1,
      )),
      call.2,
      call.3,
    )
