-- `capi::yirvagul_record_size` meets its contract. Assumes nothing.
use Rattle.capi.proofs.Carried.{answered}
use Rattle.capi.proofs.yirvagul_record_size.Goals as goal

pub returns : goal.returns
returns c =
    let e = c.record_size-a.ensures in
    answered e.answer e.table c.give.ensures
