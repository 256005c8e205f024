-- `given_leaf::given_at` meets its contract: by the class of the source. Assumes nothing.
use Rattle.plans.proofs.LeafSteps.{leaf_valid, class_real, class_other, real_given, whole_given}
use Rattle.given_leaf.proofs.given_at.Goals as goal

pub raw_at-raw-requires : goal.raw_at-raw-requires
raw_at-raw-requires c =
    let h = c.requires in
    rw c.layout_at-l.ensures.0 (leaf_valid _ h.0.0 _ h.0.1, h.1)

pub returns-then-type_word-eq-REAL : goal.returns-then-type_word-eq-REAL
returns-then-type_word-eq-REAL c =
    let a = c.args in
    real_given a.src.now a.source_byte a.source_type a.source_half.now c.layout_at-l.ensures.0 c.raw_at-raw.ensures.0 c.requires.0.0
    (class_real _ _ c.type_word.ensures c.if-type_word-eq-REAL.true) c.requires.0.1

pub number_of-requires : goal.number_of-requires
number_of-requires c =
    let h = c.requires in
    let v = leaf_valid _ h.0.0 _ h.0.1 in
    (rw c.layout_at-l.ensures.0 v.some, rw c.layout_at-l.ensures.0 v.most, c.raw_at-raw.ensures.1)

pub returns : goal.returns
returns c =
    let a = c.args in
    whole_given a.src.now a.source_byte a.source_type a.source_half.now c.layout_at-l.ensures.0 c.raw_at-raw.ensures.0
    (class_other _ _ c.type_word.ensures c.if-type_word-eq-REAL.false) c.number_of.ensures c.given_number.ensures
