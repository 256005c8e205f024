-- `real_columns::make` meets its contract: by which of the two is the real. Assumes nothing.
use Rattle.std.proofs.Common.{rules}
use Rattle.real_columns.proofs.Columns.{ints_ready, reals_ready, ints_made, reals_made}
use Rattle.real_columns.proofs.make.Goals as goal

pub ints_each-requires : goal.ints_each-requires
ints_each-requires c =
    let fit = ints_ready c.args.l c.args.m c.requires.2 c.requires.3 c.requires.4 in
    (search rules, search rules, fit.0, fit.1, fit.2)

pub returns-then-from_real : goal.returns-then-from_real
returns-then-from_real c =
    let call = c.ints_each in
    ints_made c.args.l c.args.m c.requires.2 c.requires.3 c.requires.4 c.args.t.now call.new.t c.args.count call.result c.if-from_real.true call.ensures

pub reals_each-requires : goal.reals_each-requires
reals_each-requires c =
    let fit = reals_ready c.args.l c.args.m c.requires.2 c.requires.3 c.requires.4 (c.requires.5 c.if-from_real.false) in
    (search rules, search rules, fit.0, fit.1, fit.2, fit.3, fit.4)

pub returns : goal.returns
returns c =
    let call = c.reals_each in
    reals_made c.args.l c.args.m c.requires.2 c.requires.3 c.requires.4 c.args.t.now call.new.t c.args.count call.result c.if-from_real.false call.ensures
