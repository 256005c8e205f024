-- `column_words::high_end` meets its contract. Assumes nothing.
use Rattle.column_words.specs.Fit.{most_of}
use Rattle.column_words.proofs.Parts.{high_fits}
use Rattle.column_words.proofs.high_end.Goals as goal

pub overflow_add-result : goal.overflow_add-result
overflow_add-result c =
    let a = c.args in
    record { fits = high_fits a.s a.p (most_of a.t a.q) c.requires.1 c.half_of.ensures.0 c.half_of.ensures.1 (cc) }
