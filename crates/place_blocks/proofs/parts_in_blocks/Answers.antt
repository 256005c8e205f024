-- `place_blocks::parts_in_blocks` meets its contract. Assumes nothing.
use Rattle.loops.proofs.Jobs.{source_most}
use Rattle.blocks.proofs.BlockTurns.{job_ready}
use Rattle.blocks.proofs.Counted.{source_some}
use Rattle.place_blocks.proofs.parts_in_blocks.Goals as goal

pub parts_of-parts-requires : goal.parts_of-parts-requires
parts_of-parts-requires c = (c.args.words.now, job_ready c.requires.0)

pub has_blocks-requires : goal.has_blocks-requires
has_blocks-requires c = (c.requires.1, source_some c.requires.0, source_most c.requires.0, c.parts_of-parts.ensures.few)

pub returns-then-has_blocks : goal.returns-then-has_blocks
returns-then-has_blocks c some = c.parts_of-parts.ensures
