-- `leaf_columns::put_class` meets its contract. Assumes nothing.
use native.Mathlib.Omega.{arith}
use Rattle.leaf_columns.proofs.Columns.{class_enum, class_real, class_bits, class_int, enum_length, real_length, bits_length, int_length, class_wrote}
use borrow.Author.Rules.{rules}
use Rattle.leaf_columns.proofs.put_class.Goals as goal

pub put_bytes-requires : goal.put_bytes-requires
put_bytes-requires c = omega (arith, enum_length {c = c.args.class} (search rules))

pub returns-then-class-eq-ENUM : goal.returns-then-class-eq-ENUM
returns-then-class-eq-ENUM c = class_wrote c.args.at c.args.class (class_enum (search rules)) c.requires c.put_bytes.ensures

pub put_bytes-requires-then-class-eq-REAL : goal.put_bytes-requires-then-class-eq-REAL
put_bytes-requires-then-class-eq-REAL c = omega (arith, real_length {c = c.args.class} (search rules))

pub returns-then-class-eq-REAL : goal.returns-then-class-eq-REAL
returns-then-class-eq-REAL c = class_wrote c.args.at c.args.class (class_real (search rules)) c.requires c.put_bytes-then-class-eq-REAL.ensures

pub put_bytes-requires-then-class-eq-BITS : goal.put_bytes-requires-then-class-eq-BITS
put_bytes-requires-then-class-eq-BITS c = omega (arith, bits_length {c = c.args.class} (search rules))

pub returns-then-class-eq-BITS : goal.returns-then-class-eq-BITS
returns-then-class-eq-BITS c = class_wrote c.args.at c.args.class (class_bits (search rules)) c.requires c.put_bytes-then-class-eq-BITS.ensures

pub put_bytes-requires-2 : goal.put_bytes-requires-2
put_bytes-requires-2 c = omega (arith, int_length {c = c.args.class} (search rules) (search rules) (search rules))

pub returns : goal.returns
returns c = class_wrote c.args.at c.args.class (class_int (search rules) (search rules) (search rules)) c.requires c.put_bytes-2.ensures
