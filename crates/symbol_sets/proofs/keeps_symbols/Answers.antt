-- `symbol_sets::keeps_symbols` meets its contract: at first no pair is seen. Assumes nothing.
use mathlib.Core.Path.{refl, sym, ◌∙◌}
use borrow.Author.Tests.{not-true}
use Rattle.symbol_sets.proofs.Rows.{seen_none}
use Rattle.symbol_sets.proofs.Enums.{no_enum_keeps}
use mathlib.Core.Path.{ap}
use mathlib.Core.Bool.{not}
use Rattle.symbol_sets.proofs.keeps_symbols.Goals as goal

pub returns-then-not-has_enum : goal.returns-then-not-has_enum
returns-then-not-has_enum c = sym (no_enum_keeps _ _ _ _ (sym c.has_enum.ensures ∙ not-true _ (ap not c.if-not-has_enum.true)))

pub keeps_to-requires : goal.keeps_to-requires
keeps_to-requires c = (c.requires.0, c.requires.1, seen_none _ _ _ _ 4096 refl)

pub returns : goal.returns
returns c = c.keeps_to.ensures.0
