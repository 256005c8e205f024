-- `symbol_sets::enums_stand` meets its contract. Assumes nothing.
use mathlib.Core.Path.{sym, ◌∙◌}
use Prim.Native.Nat.{◌+◌, ◌*◌}
use borrow.Author.Tests.{not-true, not-false}
use lib.ListN.{length-set}
use Rattle.symbol_sets.proofs.Rows.{pair_inside, seen_stand, seen_more}
use mathlib.Core.Path.{ap}
use mathlib.Core.Bool.{not}
use Rattle.symbol_sets.proofs.enums_stand.Goals as goal

pub bounds-seen-at : goal.bounds-seen-at
bounds-seen-at c = pair_inside _ _ _ _ _ _ _ c.requires.2 c.requires.0 c.requires.1

pub returns-then-seen-at-eq-STAND : goal.returns-then-seen-at-eq-STAND
returns-then-seen-at-eq-STAND c = (seen_stand _ _ _ _ _ _ _ c.requires.2 c.requires.0 c.requires.1 c.if-seen-at-eq-STAND.true, c.requires.2)

pub returns-then-not-symbols_stand : goal.returns-then-not-symbols_stand
returns-then-not-symbols_stand c = (sym (not-true _ (ap not c.if-not-symbols_stand.true)) ∙ c.symbols_stand.ensures, c.requires.2)

pub bounds-seen-at-2 : goal.bounds-seen-at-2
bounds-seen-at-2 c = pair_inside _ _ _ _ _ _ _ c.requires.2 c.requires.0 c.requires.1

pub shape_of-seen : goal.shape_of-seen
shape_of-seen c = length-set c.args.seen.now (64 * c.args.source_type + c.args.destination_type) 1

pub returns : goal.returns
returns c =
    let stand = sym (not-false _ (ap not c.if-not-symbols_stand.false)) ∙ c.symbols_stand.ensures in
    (stand, seen_more _ _ _ _ _ _ _ c.requires.2 c.requires.0 c.requires.1 (sym stand))
