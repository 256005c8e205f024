-- `enum_leaf::enum_code` meets its contract. Assumes nothing.
use Rattle.plans.proofs.LeafSteps.{enum_source, code_here}
use Rattle.enum_leaf.proofs.enum_code.Goals as goal

pub raw_at-raw-requires : goal.raw_at-raw-requires
raw_at-raw-requires c = enum_source _ _ _ _ _ _ _ _ c.requires c.layout_at-l.ensures.0

pub raw_code-requires : goal.raw_code-requires
raw_code-requires c = ((enum_source _ _ _ _ _ _ _ _ c.requires c.layout_at-l.ensures.0).0, c.layout_at-l.ensures.0, c.raw_at-raw.ensures.1, c.requires.room, c.requires.enum)

pub returns : goal.returns
returns c = code_here c.args.src.now c.args.source_byte _ _ _ _ _ _ c.layout_at-l.ensures.0 c.raw_at-raw.ensures.0 c.raw_code.ensures
