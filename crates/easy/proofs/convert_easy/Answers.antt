-- `easy::convert_easy` meets its contract. Assumes nothing.
use Rattle.layout.specs.declared.Layout.{Layout}
use Rattle.easy.specs.Words.{EasyBy, EasyAt}
use Rattle.easy.proofs.Easy.{numbers_read}
use Rattle.easy.proofs.convert_easy.Lts as lts
use Rattle.easy.proofs.convert_easy.Reads as reads
use Rattle.easy.proofs.convert_easy.Tie as tie
use Rattle.easy.proofs.convert_easy.Goals as goal

-- the numbers that were read
read : (c : lts.After-order_in tie.the-claims reads.Pre reads.Post) (l m : Layout)
    → (let a = c.args in
    EasyAt l m a.words.now a.place → EasyBy l m c.route_in.result c.shift_in.result c.precision_in.result c.carry_at-carry.result c.size_in.result c.order_in.result)
read c l m e =
    let a = c.args in
    numbers_read l m a.words.now a.place e c.at-code.ensures c.route_in.ensures.0 c.shift_in.ensures.0 c.precision_in.ensures.0 c.carry_at-carry.ensures c.size_in.ensures.0 c.order_in.ensures.0

pub convert_by-requires : goal.convert_by-requires
convert_by-requires c =
    let p = c.requires in
    ((p.0.0, p.0.1, read c.before _ _ p.0.2, p.0.3), p.1)

pub returns : goal.returns
returns c = λ l m e fits. c.convert_by.ensures l m (read c.before.before.before.before l m e) fits
