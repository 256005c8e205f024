-- `capi::yirvagul_reach` meets its contract. Assumes nothing.
use Rattle.capi.proofs.Carried.{reached}
use Rattle.capi.proofs.yirvagul_reach.Goals as goal

pub returns : goal.returns
returns c = reached c.reach-a.ensures c.give.ensures
