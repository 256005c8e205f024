-- `capi::yirvagul_report` meets its contract. Assumes nothing.
use Rattle.capi.proofs.Carried.{reported}
use Rattle.capi.proofs.yirvagul_report.Goals as goal

pub returns : goal.returns
returns c = reported c.report-a.ensures c.give.ensures
