-- `one_record::write_number` meets its contract. Assumes nothing.
use native.Mathlib.Omega.{arith}
use Rattle.plans.proofs.EasyLeaves.{route_is, easy_at, easy_became, real_became, number_became, both_valid}
use Rattle.one_record.proofs.write_number.Goals as goal

pub returns-then-route-eq-REAL : goal.returns-then-route-eq-REAL
returns-then-route-eq-REAL c = real_became c.requires.0 c.words_of-place.ensures c.at.ensures c.route_in-route.ensures c.if-route-eq-REAL.true _ _ _ c.write_real.ensures

pub returns-then-src-e-ge8 : goal.returns-then-src-e-ge8
returns-then-src-e-ge8 c =
    let here = c.words_of-place.ensures in
    let route = route_is c.requires.0 here c.at.ensures c.route_in-route.ensures in
    let easy = easy_at c.requires.0 here c.at.ensures c.route_in-route.ensures c.if-route-ne-GENERAL.true (omega (arith, route, c.requires.2, c.if-route-eq-REAL.false)) in
    easy_became c.requires.0 here c.at.ensures c.route_in-route.ensures c.if-route-ne-GENERAL.true (omega (arith, route, c.requires.2, c.if-route-eq-REAL.false)) _ _ _
    (c.convert_easy.ensures _ _ easy c.requires.0.write)

pub convert_number-requires : goal.convert_number-requires
convert_number-requires c =
    let valid = both_valid c.requires.0 in
    (valid.0, valid.1, c.requires.0.read, c.requires.0.write)

pub returns : goal.returns
returns c =
    let here = c.words_of-place.ensures in
    let route = route_is c.requires.0 here c.at.ensures c.route_in-route.ensures in
    number_became c.requires.0 here c.at.ensures c.route_in-route.ensures (omega (arith, route, c.requires.2, c.if-route-eq-REAL.false)) _ _ _ c.convert_number.ensures
