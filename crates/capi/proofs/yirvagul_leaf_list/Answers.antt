-- `capi::yirvagul_leaf_list` meets its contract. Assumes nothing.
use Rattle.capi.proofs.Carried.{carried}
use Rattle.capi.proofs.yirvagul_leaf_list.Goals as goal

pub returns : goal.returns
returns c =
    let e = c.leaf_list-a.ensures in
    carried e.answer e.table c.give.ensures e.list
