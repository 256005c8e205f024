-- When a layout takes a field, and the size that it then has. Assumes nothing.
use mathlib.Core.Path.{◌≡◌, refl}
use mathlib.Core.Bool.{Bool, true, false, ◌&&◌, and-eq-true_iff}
use Prim.Native.Nat.{ℕ, ◌+◌, ◌*◌, ◌≤◌, ◌<◌, max}
use native.Mathlib.Omega.{arith}
use lib.Dec.{leb}
use borrow.Author.Tests.{leb-true, leb-false, le-leb}
use Rattle.layout.specs.declared.Layout.{Layout}
use Rattle.layout.specs.Layout.{Valid}
use Rattle.layout.specs.Setters.{resized, bytes_for, size_with_field, field_allowed}
use Rattle.layout.specs.FieldLaws.{LeastHolding, Takes}
use Rattle.layout.proofs.Valid.{between}

pub bytes_least : (n : ℕ) → LeastHolding n (bytes_for n)
bytes_least n = record { holds = omega arith; least = λ t h. omega arith }

-- "grows size only if .. to the least that holds it": the larger one of the two
pub field_size : (l : Layout) (o p : ℕ) → size_with_field l o p ≡ max l.size.0 (bytes_for (o + p))
field_size l o p = go (leb (o + p) (8 * l.size.0)) refl
  where
    go : (t : Bool) → leb (o + p) (8 * l.size.0) ≡ t → size_with_field l o p ≡ max l.size.0 (bytes_for (o + p))
    go true e =
        let h : o + p ≤ 8 * l.size.0 = leb-true _ _ e in
        rw e (omega arith)
    go false e =
        let h : 8 * l.size.0 < o + p = leb-false _ _ e in
        rw e (omega arith)

-- ---- the test and the facts

pub allowed_takes : (l : Layout) (o p : ℕ) → Valid l → field_allowed l o p ≡ true → Takes l o p
allowed_takes l o p v h =
    let t = (and-eq-true_iff (leb 1 p && leb p 64) (leb (size_with_field l o p) 8)).0 h in
    let b = between p 64 t.0 in
    let s : size_with_field l o p ≤ 8 = leb-true _ _ t.1 in
    let e = field_size l o p in
    record { given = v; some = b.0; most = b.1; room = omega arith }

pub takes_allowed : (l : Layout) (o p : ℕ) → Takes l o p → field_allowed l o p ≡ true
takes_allowed l o p t =
    let v = t.given in
    let s : max l.size.0 (bytes_for (o + p)) ≤ 8 = omega arith in
    rw (le-leb _ _ t.some, le-leb _ _ t.most, field_size l o p) (le-leb _ _ s)

-- ---- the layout with the field

pub taken_valid : (l : Layout) (o p : ℕ) → Takes l o p → Valid (resized l (size_with_field l o p) o p)
taken_valid l o p t =
    let v = t.given in
    let e = field_size l o p in
    record { some_bytes = omega arith; sized = omega arith; some = t.some; most = t.most; inside = omega arith; sign = v.sign }
