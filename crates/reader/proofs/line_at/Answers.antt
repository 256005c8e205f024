-- `reader::line_at` meets its contract. Assumes nothing.
use Rattle.reader.proofs.Lines.{line_laws}
use Rattle.reader.proofs.line_at.Goals as goal

pub returns-then-s-at : goal.returns-then-s-at
returns-then-s-at c = search line_laws

pub slice_bounds-result-count : goal.slice_bounds-result-count
slice_bounds-result-count c = search line_laws

pub slice_bounds-result-start : goal.slice_bounds-result-start
slice_bounds-result-start c = search line_laws

pub slice_bounds-result-end-2 : goal.slice_bounds-result-end-2
slice_bounds-result-end-2 c = search line_laws

pub returns : goal.returns
returns c = search line_laws
