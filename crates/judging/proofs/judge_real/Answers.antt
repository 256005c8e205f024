-- `judging::judge_real` meets its contract. Assumes nothing.
use borrow.Author.Rules.{rules}
use Rattle.sheet_steps.proofs.Lines.{real_judged}
use Rattle.judging.proofs.judge_real.Goals as goal

pub returns : goal.returns
returns c = search (rules, real_judged)
