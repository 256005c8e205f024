-- `leaf_columns::class_len` meets its contract. Assumes nothing.
use Rattle.leaf_columns.proofs.Columns.{class_laws}
use Rattle.leaf_columns.proofs.class_len.Goals as goal

pub returns-then-class-eq-ENUM : goal.returns-then-class-eq-ENUM
returns-then-class-eq-ENUM c = search class_laws

pub returns-then-class-eq-REAL : goal.returns-then-class-eq-REAL
returns-then-class-eq-REAL c = search class_laws

pub returns-then-class-eq-BITS : goal.returns-then-class-eq-BITS
returns-then-class-eq-BITS c = search class_laws

pub returns-else-class-eq-BITS : goal.returns-else-class-eq-BITS
returns-else-class-eq-BITS c = search class_laws
