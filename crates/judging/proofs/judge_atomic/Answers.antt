-- `judging::judge_atomic` meets its contract. Assumes nothing.
use Rattle.sheet_steps.proofs.Lines.{atomic_judged}
use mathlib.Core.Path.{ap}
use mathlib.Core.Bool.{not}
use Rattle.judging.proofs.judge_atomic.Goals as goal

pub returns : goal.returns
returns c = atomic_judged c.args.sheet.now c.args.l c.requires.0 c.requires.1 c.is_valid.ensures (ap not c.if-not-is_valid.false) c.atomic_record.ensures c.next_type.ensures
