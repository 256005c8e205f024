-- `storing::put_one` meets its contract. Assumes nothing.
use mathlib.Core.Path.{◌≡◌, sym, ◌∙◌}
use lib.ListN.{get_or, length-set}
use Rattle.bits.specs.Container.{contained}
use Rattle.bits.proofs.Digits.{byte_at}
use Rattle.storing.proofs.put_one.Goals as goal

pub returns : goal.returns
returns c =
    let a = c.args in
    let e : c.byte_of.result ≡ get_or (contained a.order a.size a.c) a.i 0 =
    c.byte_of.ensures ∙ rw c.index_of-k.ensures.0 (sym (byte_at a.order a.size a.c a.i c.requires.1)) in
    (rw e, simp length-set)
