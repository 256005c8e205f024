-- `one_record::write_enum` meets its contract. Assumes nothing.
use native.Mathlib.Omega.{arith}
use Rattle.plans.proofs.EasyLeaves.{route_is, enum_here, enum_became}
use Rattle.one_record.proofs.write_enum.Goals as goal

pub returns-then-src-e-ge8 : goal.returns-then-src-e-ge8
returns-then-src-e-ge8 c =
    let here = c.words_of-place.ensures in
    let route = route_is c.requires.0 here c.at.ensures c.route_in.ensures in
    let fast = enum_here c.requires.0 here c.at.ensures c.route_in.ensures (omega (arith, route, c.requires.2)) c.if-route_in-lt-SPAN.true (omega (arith, c.if-src-e-ge8.true, c.requires.0.read)) in
    enum_became c.requires.0 here c.at.ensures c.route_in.ensures _ _ _ (c.convert_enum_fast.ensures _ _ _ fast)

pub returns : goal.returns
returns c = enum_became c.requires.0 c.words_of-place.ensures c.at.ensures c.route_in.ensures _ _ _ c.convert_enum.ensures
