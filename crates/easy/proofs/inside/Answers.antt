-- `easy::inside` meets its contract. Assumes nothing.
use Rattle.easy.proofs.inside.Goals as goal

pub returns-then-sign : goal.returns-then-sign
returns-then-sign c = rw (c.if-signed.true, c.if-sign.true)

pub returns-then-sign-2 : goal.returns-then-sign-2
returns-then-sign-2 c = rw (c.if-signed.false, c.if-sign-2.true)

pub returns : goal.returns
returns c = rw (c.if-signed.false, c.if-sign-2.false)
