-- `capi::yirvagul_convert_in_place` meets its contract. Assumes nothing.
use Rattle.capi.proofs.Carried.{converted}
use Rattle.capi.proofs.yirvagul_convert_in_place.Goals as goal

pub returns : goal.returns
returns c = converted c.convert_in_place-a.ensures c.give.ensures
