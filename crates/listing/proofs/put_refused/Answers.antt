-- `listing::put_refused` meets its contract. Assumes nothing.
use native.Mathlib.Omega.{arith}
use Rattle.listing.proofs.Lengths.{word_digits}
use Rattle.listing.proofs.Writes.{refused_wrote}
use borrow.Author.Rules.{rules}
use Rattle.listing.proofs.put_refused.Goals as goal

pub put_decimal-tab-requires : goal.put_decimal-tab-requires
put_decimal-tab-requires c =
    let a = c.args in
    omega (arith, word_digits a.number (search rules), word_digits a.line (search rules))

pub put_bytes-second-requires : goal.put_bytes-second-requires
put_bytes-second-requires c =
    let a = c.args in
    omega (arith, word_digits a.number (search rules), word_digits a.line (search rules))

pub put_decimal-end-requires : goal.put_decimal-end-requires
put_decimal-end-requires c =
    let a = c.args in
    omega (arith, word_digits a.number (search rules), word_digits a.line (search rules))

pub put_bytes-requires : goal.put_bytes-requires
put_bytes-requires c =
    let a = c.args in
    omega (arith, word_digits a.number (search rules), word_digits a.line (search rules))

pub returns : goal.returns
returns c =
    refused_wrote
    c.args.number
    c.args.line
    (search rules)
    (search rules)
    c.requires
    c.put_bytes-first.ensures
    c.put_decimal-tab.ensures
    c.put_bytes-second.ensures
    c.put_decimal-end.ensures
    c.put_bytes.ensures
