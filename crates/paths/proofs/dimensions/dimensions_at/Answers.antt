-- `paths::dimensions::dimensions_at` meets its contract. Assumes nothing.
use borrow.Author.Rules.{rules}
use Rattle.paths.proofs.SameDimensions.{dimensions_read}
use Rattle.paths.proofs.dimensions.dimensions_at.Goals as goal

pub returns : goal.returns
returns c = search (rules, dimensions_read)
