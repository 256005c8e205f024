-- `judging::judge_compound` meets its contract. Assumes nothing.
use Rattle.sheet_steps.proofs.Lines.{compound_judged}
use Rattle.judging.proofs.judge_compound.Goals as goal

pub returns : goal.returns
returns c = compound_judged c.args.sheet.now c.requires.0 c.requires.1 c.if-size-lt1.false c.if-size-gt-MOST_BYTES.false c.compound_record.ensures c.next_type.ensures
