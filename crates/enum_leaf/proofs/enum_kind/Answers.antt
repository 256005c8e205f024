-- `enum_leaf::enum_kind` meets its contract. Assumes nothing.
use Rattle.plans.proofs.LeafSteps.{enum_missing, enum_found}
use Rattle.enum_leaf.proofs.enum_kind.Goals as goal

pub returns-then-enum_code-eq0 : goal.returns-then-enum_code-eq0
returns-then-enum_code-eq0 c = enum_missing c.args.src.now _ _ _ _ _ _ _ c.requires c.enum_code.ensures c.if-enum_code-eq0.true

pub returns-else-enum_code-eq0 : goal.returns-else-enum_code-eq0
returns-else-enum_code-eq0 c = enum_found c.args.src.now _ _ _ _ _ _ _ c.requires c.enum_code.ensures c.if-enum_code-eq0.false
