-- `leaf_compare::same_leaf` meets its contract. Assumes nothing.
use Rattle.leaf_compare.proofs.Ways.{enum_leaf, other_leaf}
use Rattle.leaf_compare.proofs.same_leaf.Goals as goal

pub returns-then-type_word-eq-ENUM : goal.returns-then-type_word-eq-ENUM
returns-then-type_word-eq-ENUM c =
    let a = c.args in
    enum_leaf a.first_half.now a.first_sheet.now a.second_half.now a.second_sheet.now a.e.source a.e.destination a.z a.w c.type_word.ensures c.if-type_word-eq-ENUM.true c.same_symbol.ensures

pub returns : goal.returns
returns c =
    let a = c.args in
    other_leaf a.first_half.now a.first_sheet.now a.second_half.now a.second_sheet.now a.e.source a.e.destination a.z a.w c.type_word.ensures c.if-type_word-eq-ENUM.false c.is_real-z_real.ensures c.is_real-w_real.ensures c.same_worth.ensures
