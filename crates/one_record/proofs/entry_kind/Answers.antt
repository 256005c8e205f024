-- `one_record::entry_kind` meets its contract. Assumes nothing.
use native.Mathlib.Omega.{arith}
use Rattle.plans.proofs.EasyLeaves.{easy_kind, real_asked, real_kind_is, number_kind_is, enum_kind_is, both_valid}
use Rattle.one_record.proofs.entry_kind.Goals as goal

pub returns-then-route-ge-SPAN_LE : goal.returns-then-route-ge-SPAN_LE
returns-then-route-ge-SPAN_LE c = enum_kind_is c.requires.1 c.words_of-place.ensures c.at.ensures c.route_in-route.ensures _ c.enum_kind.ensures

pub real_kind-requires : goal.real_kind-requires
real_kind-requires c = real_asked c.requires.1 c.words_of-place.ensures c.at.ensures c.route_in-route.ensures c.if-route-eq-REAL.true

pub returns-then-route-eq-REAL : goal.returns-then-route-eq-REAL
returns-then-route-eq-REAL c = real_kind_is c.requires.1 c.words_of-place.ensures c.at.ensures c.route_in-route.ensures c.if-route-eq-REAL.true _ c.real_kind.ensures

pub returns-then-route-ne-GENERAL : goal.returns-then-route-ne-GENERAL
returns-then-route-ne-GENERAL c = easy_kind c.requires.1 c.words_of-place.ensures c.at.ensures c.route_in-route.ensures c.if-route-ne-GENERAL.true (omega (arith, c.if-route-ge-SPAN_LE.false, c.if-route-eq-REAL.false)) _

pub number_kind-requires : goal.number_kind-requires
number_kind-requires c =
    let valid = both_valid c.requires.1 in
    (valid.0, valid.1, c.requires.1.read)

pub returns : goal.returns
returns c = number_kind_is c.requires.1 c.words_of-place.ensures c.at.ensures c.route_in-route.ensures (omega (arith, c.if-route-ge-SPAN_LE.false, c.if-route-eq-REAL.false)) _ c.number_kind.ensures
