-- `leaf_lines::put_list` meets its contract. Assumes nothing.
use native.Mathlib.Omega.{arith}
use mathlib.Core.List.{[]}
use Rattle.leaf_lines.proofs.Lines.{list_wrote}
use Rattle.leaf_lines.proofs.put_list.Goals as goal

pub put_bytes-start-requires : goal.put_bytes-start-requires
put_bytes-start-requires c = omega (arith, c.requires.1 [])

pub returns : goal.returns
returns c t = list_wrote c.args.list.now _ (c.requires.1 t) c.put_bytes-start.ensures (c.put_lines.ensures t)
