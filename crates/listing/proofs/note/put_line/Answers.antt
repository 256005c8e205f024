-- `listing::note::put_line` meets its contract. Assumes nothing.
use native.Mathlib.Omega.{arith}
use lib.ListN.{length-map}
use Rattle.listing.specs.Note.{shown}
use Rattle.listing.proofs.Lengths.{word_digits}
use Rattle.listing.proofs.Writes.{line_wrote}
use borrow.Author.Rules.{rules}
use Rattle.listing.proofs.note.put_line.Goals as goal

pub put_decimal-colon-requires : goal.put_decimal-colon-requires
put_decimal-colon-requires c =
    let a = c.args in
    omega (arith, word_digits a.k (search rules))

pub put_bytes-start-requires : goal.put_bytes-start-requires
put_bytes-start-requires c =
    let a = c.args in
    omega (arith, word_digits a.k (search rules))

pub put_shown-end-requires : goal.put_shown-end-requires
put_shown-end-requires c =
    let a = c.args in
    omega (arith, word_digits a.k (search rules))

pub put_ending-requires : goal.put_ending-requires
put_ending-requires c =
    let a = c.args in
    let shows = c.put_shown-end.ensures in
    omega (arith, word_digits a.k (search rules), shows.ends, length-map a.line.now shown)

pub returns : goal.returns
returns c =
    line_wrote
    c.args.k
    c.args.line.now
    (search rules)
    c.requires
    c.put_bytes-number.ensures
    c.put_decimal-colon.ensures
    c.put_bytes-start.ensures
    c.put_shown-end.ensures
    c.is_ended.ensures
    c.put_ending.ensures
