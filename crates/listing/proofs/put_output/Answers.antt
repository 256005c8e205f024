-- `listing::put_output` meets its contract. Assumes nothing.
use Rattle.listing.proofs.Outputs.{prints_list, prints_refusal}
use borrow.Author.Rules.{rules}
use Rattle.listing.proofs.put_output.Goals as goal

pub returns-then-number-eq0 : goal.returns-then-number-eq0
returns-then-number-eq0 c =
    let p = prints_list
    c.args.sheet.now
    c.args.out.now
    c.requires
    c.leaf_list-a.ensures.answer
    c.leaf_list-a.ensures.list
    c.number_of-number.ensures
    c.values_of-v.ensures
    (search rules) in
    record { long = p.0; faulty = p.1; bytes = p.2 }

pub returns : goal.returns
returns c =
    let p = prints_refusal
    c.args.sheet.now
    c.args.out.now
    c.requires
    c.leaf_list-a.ensures.answer
    c.leaf_list-a.ensures.list
    c.number_of-number.ensures
    c.values_of-v.ensures
    (search rules)
    c.put_refused-bytes.ensures in
    record { long = p.0; faulty = p.1; bytes = p.2 }
