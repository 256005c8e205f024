-- The test `valid` and the facts `Valid` say the same of a layout. Assumes nothing.
use mathlib.Core.Path.{◌≡◌, refl}
use mathlib.Core.Bool.{Bool, true, false, ◌&&◌, false≢true, and-eq-true_iff}
use Prim.Native.Nat.{ℕ, ◌+◌, ◌*◌, ◌≤◌}
use lib.Dec.{leb}
use borrow.Author.Tests.{leb-true, le-leb}
use Rattle.layout.specs.declared.Layout.{Layout}
use Rattle.layout.specs.Layout.{valid, Valid, may_sign}

-- a number that passed the test of both bounds
pub between : (n most : ℕ) → (leb 1 n && leb n most) ≡ true → (1 ≤ n) × (n ≤ most)
between n most h =
    let t = (and-eq-true_iff (leb 1 n) (leb n most)).0 h in
    (leb-true 1 n t.0, leb-true n most t.1)

-- six tests that all passed
each : (a b c d e f : Bool) → (a && b && c && d && e && f) ≡ true → (a ≡ true) × (b ≡ true) × (c ≡ true) × (d ≡ true) × (e ≡ true) × (f ≡ true)
each true true true true true f h = (refl, refl, refl, refl, refl, h)
each false b c d e f h = absurd (false≢true h)
each true false c d e f h = absurd (false≢true h)
each true true false d e f h = absurd (false≢true h)
each true true true false e f h = absurd (false≢true h)
each true true true true false f h = absurd (false≢true h)

pub facts : (l : Layout) → valid l ≡ true → Valid l
facts l h =
    let s = l.size.0 in
    let p = l.precision in
    let t = each (leb 1 s) (leb s 8) (leb 1 p) (leb p 64) (leb (l.offset.0 + p) (8 * s)) (may_sign l.class l.signed) h in
    record {
      some_bytes = leb-true _ _ t.0;
      sized = leb-true _ _ t.1;
      some = leb-true _ _ t.2;
      most = leb-true _ _ t.3;
      inside = leb-true _ _ t.4;
      sign = t.5;
    }

pub tested : (l : Layout) → Valid l → valid l ≡ true
tested l v =
    rw (le-leb _ _ v.some_bytes, le-leb _ _ v.sized, le-leb _ _ v.some, le-leb _ _ v.most, le-leb _ _ v.inside, v.sign)
