-- `enum_leaf::enum_bits` meets its contract. Assumes nothing.
use Rattle.plans.proofs.LeafSteps.{enum_precision, enum_becomes}
use Rattle.enum_leaf.proofs.enum_bits.Goals as goal

pub code_bits-requires : goal.code_bits-requires
code_bits-requires c = enum_precision _ _ _ _ _ _ _ _ c.requires.0 c.requires.1

pub returns : goal.returns
returns c = enum_becomes c.args.src.now _ _ _ _ _ _ _ c.requires.0 c.enum_code.ensures c.requires.1 c.code_bits.ensures
