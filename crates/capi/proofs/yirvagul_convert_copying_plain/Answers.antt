-- `capi::yirvagul_convert_copying_plain` meets its contract. Assumes nothing.
use Rattle.capi.proofs.Carried.{converted}
use Rattle.capi.proofs.yirvagul_convert_copying_plain.Goals as goal

pub returns : goal.returns
returns c = converted c.convert_copying_plain-a.ensures c.give.ensures
