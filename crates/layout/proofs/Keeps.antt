-- From a valid layout every sequence of setter calls gives a valid one, and a setter that refuses gives the layout that it was given. Assumes nothing.
use mathlib.Core.Path.{◌≡◌, refl}
use mathlib.Core.Bool.{Bool, true, false, ◌&&◌, false≢true}
use mathlib.Core.List.{List, [], ◌∷◌}
use Prim.Native.Nat.{ℕ}
use native.Mathlib.Omega.{arith}
use Rattle.answer.specs.declared.Answer.TheVariants.{Done, Range}
use Rattle.bits.specs.declared.Order.{Order}
use Rattle.layout.specs.declared.Class.{Class}
use Rattle.layout.specs.declared.Class.TheVariants.{Int, Bits}
use Rattle.layout.specs.declared.Pad.{Pad}
use Rattle.layout.specs.declared.Layout.{Layout}
use Rattle.layout.specs.Layout.{valid, Valid, may_sign}
use Rattle.layout.specs.Setters.{edited, set_size, set_field, set_order, set_pads, set_sign}
use Rattle.layout.specs.Setters.{Edit, size, field, order, pads, sign, edit, edit_all, is_int}
use Rattle.layout.proofs.Valid.{between, tested}
use Rattle.layout.proofs.Fields.{allowed_takes, taken_valid}

-- every setter: what is allowed is valid again
kept : (l m : Layout) (allowed : Bool) → Valid l → (allowed ≡ true → Valid m) → Valid (edited l allowed m).layout
kept l m true v f = rw (tested l v) (f refl)
kept l m false v f = rw (tested l v) v

-- order, pads and sign leave the places as they are
beside : (l : Layout) (o : Order) (lsb msb : Pad) (signed : Bool) → may_sign l.class signed ≡ true → Valid l
    → Valid (record { class = l.class; size = l.size; order = o; offset = l.offset; precision = l.precision; lsb = lsb; msb = msb; signed = signed })
beside l o lsb msb signed h v =
    record { some_bytes = v.some_bytes; sized = v.sized; some = v.some; most = v.most; inside = v.inside; sign = h }

may_sign_lem : (k : Class) (signed : Bool) → is_int k ≡ true → may_sign k signed ≡ true
may_sign_lem Int signed h = refl
may_sign_lem Bits signed h = absurd (false≢true h)

pub edit_keeps : (e : Edit) (l : Layout) → Valid l → Valid (edit e l).layout
unfolding set_size set_field set_order set_pads set_sign
edit_keeps (size s) l v =
    kept l _ _ v
    (λ h.
    let b = between s 8 h in
    record { some_bytes = b.0; sized = b.1; some = omega arith; most = omega arith; inside = omega arith; sign = v.sign })
edit_keeps (field o p) l v = kept l _ _ v (λ h. taken_valid l o p (allowed_takes l o p v h))
edit_keeps (order o) l v = kept l _ true v (λ h. beside l o l.lsb l.msb l.signed v.sign v)
edit_keeps (pads lsb msb) l v = kept l _ true v (λ h. beside l l.order lsb msb l.signed v.sign v)
edit_keeps (sign signed) l v = kept l _ _ v (λ h. beside l l.order l.lsb l.msb signed (may_sign_lem l.class signed h) v)

pub keeps : (es : List Edit) (l : Layout) → Valid l → Valid (edit_all es l)
keeps [] l v = v
keeps (e ∷ es) l v = keeps es (edit e l).layout (edit_keeps e l v)

-- every setter: what is refused is given back
given : (l m : Layout) (allowed : Bool) → (edited l allowed m).answer ≡ Range → (edited l allowed m).layout ≡ l
given l m allowed = go (valid l && allowed) refl
  where
    go : (t : Bool) → (valid l && allowed) ≡ t → (edited l allowed m).answer ≡ Range → (edited l allowed m).layout ≡ l
    go true e h =
        let r : Done 0 ≡ Range = rw e at h in
        let z : ◌≡◌ {A = ℕ} 0 1 = cc in
        absurd (omega arith)
    go false e h = rw e

pub refuses : (e : Edit) (l : Layout) → (edit e l).answer ≡ Range → (edit e l).layout ≡ l
unfolding set_size set_field set_order set_pads set_sign
refuses (size s) l = given l _ _
refuses (field o p) l = given l _ _
refuses (order o) l = given l _ true
refuses (pads lsb msb) l = given l _ true
refuses (sign signed) l = given l _ _
