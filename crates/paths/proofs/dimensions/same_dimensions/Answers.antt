-- `paths::dimensions::same_dimensions` meets its contract. Assumes nothing.
use mathlib.Core.Path.{ap₂, ◌∙◌}
use Rattle.datatype.specs.Datatype.{same}
use Rattle.paths.proofs.dimensions.same_dimensions.Goals as goal

pub returns : goal.returns
returns c = c.are_equal.ensures ∙ ap₂ same c.dimensions_at.ensures c.dimensions_at-2.ensures
