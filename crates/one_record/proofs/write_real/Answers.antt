-- `one_record::write_real` meets its contract. Assumes nothing.
use Rattle.plans.specs.LeafSteps.{real_becomes}
use Rattle.plans.proofs.EasyLeaves.{real_here, real_at}
use Rattle.one_record.proofs.write_real.Goals as goal

pub returns-then-src-e-ge8 : goal.returns-then-src-e-ge8
unfolding real_becomes
returns-then-src-e-ge8 c =
    let fast = real_at c.requires.0 c.requires.2 c.words_of-place.ensures c.at.ensures c.if-at-ne0.true in
    c.convert_real_fast.ensures _ _ _ fast c.requires.0.write

pub convert_real-requires : goal.convert_real-requires
convert_real-requires c = (real_here c.requires.0 c.requires.2, c.requires.0.write)
