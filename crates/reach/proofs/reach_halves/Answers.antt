-- `reach::reach_halves` meets its contract. Assumes nothing.
use mathlib.Core.Path.{sym}
use native.Mathlib.Omega.{arith}
use lib.Seq.{length-take-le}
use Rattle.reach.proofs.Whole.{halves_both, halves_leave}
use Rattle.reach.proofs.reach_halves.Goals as goal

pub slice_bounds-source_half-end : goal.slice_bounds-source_half-end
slice_bounds-source_half-end c = sym (length-take-le 4096 c.args.table.now (omega (arith, c.requires.1)))

pub reach_types-requires : goal.reach_types-requires
reach_types-requires c = halves_both _ _ c.args.table.now _ _ c.requires.0

pub returns : goal.returns
returns c = halves_leave _ _ c.args.table.now _ _ c.requires.0 _ _ _ c.reach_types.ensures
