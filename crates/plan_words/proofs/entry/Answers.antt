-- `plan_words::entry` meets its contract. Assumes nothing.
use Rattle.plans.proofs.Entries.{words_are}
use Rattle.plan_words.proofs.entry.Goals as goal

pub returns : goal.returns
returns c = words_are c.args.plan.now c.args.i c.at-places.ensures c.at-types.ensures
