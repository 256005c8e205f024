-- `capi::yirvagul_compare` meets its contract. Assumes nothing.
use Rattle.capi.proofs.Carried.{compared}
use Rattle.capi.proofs.yirvagul_compare.Goals as goal

pub returns : goal.returns
returns c = compared c.compare-a.ensures c.give.ensures
