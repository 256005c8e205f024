-- `entry_columns::entry_raised` meets its contract: by the kind of the entry. Assumes nothing.
use mathlib.Core.Path.{refl}
use Rattle.plans.specs.PlanWords.{words_place}
use Rattle.blocks.proofs.Leaves.{numbers_fit}
use Rattle.real_columns.proofs.Over.{reals_fit}
use Rattle.entry_columns.proofs.ByKind.{plain_count, real_count, real_route}
use Rattle.entry_columns.proofs.ByTable.{enum_route, enum_table, low_route}
use Rattle.entry_columns.proofs.entry_raised.Goals as goal

pub enum_raised-requires : goal.enum_raised-requires
enum_raised-requires c =
    let a = c.args in
    let job = c.requires.0 in
    let pair = job.3.pair in
    let is = c.type_word.ensures.is in
    let enum = c.if-type_word-eq-ENUM.true in (
      (words_place job.1, job.2, pair, enum_route pair is enum, job.5),
      enum_table pair is a.tables.now enum job.4,
      job.3.read,
      c.requires.2,
      c.requires.3,
      c.requires.1,
      c.requires.4,
      c.requires.6,
      c.requires.7,
    )

pub returns-then-type_word-eq-ENUM : goal.returns-then-type_word-eq-ENUM
returns-then-type_word-eq-ENUM c =
    let is = c.type_word.ensures.is in
    let enum = c.if-type_word-eq-ENUM.true in
    let call = c.enum_raised.ensures in
    ((λ i words p has kept. call.0 (words_place i) words p (enum_route p is enum) kept), call.1, call.2)

pub reals_raised-requires : goal.reals_raised-requires
reals_raised-requires c =
    let ready = c.requires.0.3 in
    let low = low_route ready.pair c.type_word.ensures.is c.if-type_word-eq-ENUM.false in
    let fit = reals_fit ready (real_route ready.pair low c.is_one_real.ensures c.if-is_one_real.true) in
    (fit.0, fit.1, fit.2, fit.3, c.requires.4, c.requires.6, c.requires.7)

pub returns-then-is_one_real : goal.returns-then-is_one_real
returns-then-is_one_real c =
    let a = c.args in
    let call = c.reals_raised.ensures in
    let class = c.type_word.ensures.is in
    let other = c.if-type_word-eq-ENUM.false in
    let is = c.is_one_real.ensures in
    let one = c.if-is_one_real.true in
    ((λ i words p has kept. real_count p (low_route p class other) is a.e.from a.source_size a.src.now a.count one call.0), call.1, c.requires.2)

pub plain_raised-requires : goal.plain_raised-requires
plain_raised-requires c =
    let fit = numbers_fit c.requires.0.3 refl refl in
    (fit.0, fit.1, fit.2, c.requires.2, c.requires.3, c.requires.4, c.requires.5, c.requires.6, c.requires.7)

pub returns : goal.returns
returns c =
    let a = c.args in
    let call = c.plain_raised.ensures in
    let class = c.type_word.ensures.is in
    let other = c.if-type_word-eq-ENUM.false in
    let is = c.is_one_real.ensures in
    let one = c.if-is_one_real.false in
    ((λ i words p has kept. plain_count p (low_route p class other) is a.e.from a.source_size a.src.now a.count one call.0), call.1, call.2)
