-- One leaf converted and converted back. Assumes nothing.
use mathlib.Core.Path.{◌≡◌, refl, sym, ap, ◌∙◌, subst}
use mathlib.Core.Logic.{◌⊎◌, inl, inr}
use mathlib.Core.Bool.{Bool, true, false, cond, false≢true}
use mathlib.Core.List.{List, [], ◌∷◌}
use mathlib.Core.Option.{Option, none, some}
use Prim.Native.Nat.{ℕ, ◌^◌, ◌<◌}
use native.Mathlib.Nat.{mod-lt}
use native.Mathlib.Omega.{arith}
use lib.IntN.{ℤ, pos}
use lib.Pow.{pow_pos, ones_lt}
use Rattle.layout.specs.declared.Layout.{Layout}
use Rattle.layout.specs.Layout.{Valid}
use Rattle.number.specs.declared.Fitted.{Fitted}
use Rattle.number.specs.Place.{raw_at}
use Rattle.number.specs.Number.{valued, number_given, fitted}
use Rattle.number.proofs.Range.{fitted_given}
use Rattle.number.proofs.RoundTrip.{fitted_back, fitted_lt, bits_back}
use Rattle.reals.specs.Compare.{equals}
use Rattle.reals.specs.Convert.{int_to_real, real_to_int}
use Rattle.reals.proofs.Ends.{real_given}
use Rattle.reals.proofs.LeafBack.{int_real_lt, int_real_arrives, int_real_back, real_int_fits, real_int_arrives, real_int_back}
use Rattle.datatype.specs.Datatype.{Symbol, Leaf, layout_of, binary64, same}
use Rattle.datatype.specs.Datatype.Leaf.{atomic, enumeration, real}
use Rattle.datatype.specs.Symbols.{on_some, same_number, symbol_of, number_of}
use Rattle.datatype.specs.Paths.{leaf_path}
use Rattle.datatype.specs.WellFormed.{Symbols, WellFormedLeaf}
use Rattle.datatype.proofs.Tests.{nothing, same→eq, same_refl, sameNumber→eq, sameNumber_refl}
use Rattle.datatype.proofs.Ways.{valid}
use Rattle.records.specs.Leaf.{number_in, symbols, translated, translated_to, untranslated, real_bits, given_of, converted}
use Rattle.records.specs.Arrival.{stands_for, Arrives}

-- ---- symbols go both ways

symbol_number : (l : Layout) (ss : List Symbol) (z : ℤ) (x : List ℕ) → Symbols l ss → symbol_of z ss ≡ some x → number_of x ss ≡ some z
unfolding symbol_of number_of
symbol_number l [] z x f e = nothing e
symbol_number l (s ∷ ss) z x f e = go (symbol_number l ss z x f.1) (same_number z s.number) refl e
  where
    later : (t : Bool) → same x s.name ≡ t → number_of x ss ≡ some z → cond t (some s.number) (number_of x ss) ≡ some z
    later true q g = nothing (sym f.0.name_once ∙ ap (λ (k : List ℕ). number_of k ss) (sym (same→eq x s.name q)) ∙ g)
    later false q g = g

    go : (symbol_of z ss ≡ some x → number_of x ss ≡ some z) → (t : Bool) → same_number z s.number ≡ t → cond t (some s.name) (symbol_of z ss) ≡ some x
        → cond (same x s.name) (some s.number) (number_of x ss) ≡ some z
    go next true q g =
        let i : s.name ≡ x = cc in
        rw (← i, same_refl s.name, sameNumber→eq z s.number q)
    go next false q g = later (same x s.name) refl (next g)

pub number_symbol : (l : Layout) (ss : List Symbol) (z : ℤ) (x : List ℕ) → Symbols l ss → number_of x ss ≡ some z → symbol_of z ss ≡ some x
unfolding symbol_of number_of
number_symbol l [] z x f e = nothing e
number_symbol l (s ∷ ss) z x f e = go (number_symbol l ss z x f.1) (same x s.name) refl e
  where
    later : (t : Bool) → same_number z s.number ≡ t → symbol_of z ss ≡ some x → cond t (some s.name) (symbol_of z ss) ≡ some x
    later true q g = nothing (sym f.0.number_once ∙ ap (λ (k : ℤ). symbol_of k ss) (sym (sameNumber→eq z s.number q)) ∙ g)
    later false q g = g

    go : (number_of x ss ≡ some z → symbol_of z ss ≡ some x) → (t : Bool) → same x s.name ≡ t → cond t (some s.number) (number_of x ss) ≡ some z
        → cond (same_number z s.number) (some s.name) (symbol_of z ss) ≡ some x
    go next true q g =
        let i : s.number ≡ z = cc in
        rw (← i, sameNumber_refl s.number, same→eq x s.name q)
    go next false q g = later (same_number z s.number) refl (next g)

-- a number that was translated is translated back
translated_back : (l k : Layout) (ss ts : List Symbol) (z w : ℤ) → Symbols l ss → Symbols k ts → translated ss ts z ≡ some w → translated ts ss w ≡ some z
translated_back l k ss ts z w f g e = go (symbol_of z ss) refl e
  where
    go : (o : Option (List ℕ)) → symbol_of z ss ≡ o → on_some (λ x. number_of x ts) none o ≡ some w → translated ts ss w ≡ some z
    go none q h = nothing h
    go (some x) q h = rw (number_symbol k ts w x g h) (symbol_number l ss z x f q)

-- ---- what is read is in range

pub InRange : Leaf → ℤ → Type 0
InRange x z = (fitted (layout_of x) z).kind ≡ 0

pub read_in_range : (x : Leaf) (i : ℕ) (r : List ℕ) → WellFormedLeaf x → InRange x (number_in x i r)
unfolding InRange
read_in_range x i r f =
    ap (λ (t : Fitted). t.kind)
    (bits_back (layout_of x).signed (layout_of x).precision (raw_at (layout_of x) i r) (valid x f).some (mod-lt _ (pow_pos (layout_of x).precision)))

-- ---- a real's number

-- the number that 64 bits of a real stand for is those bits
real_reads : (l : Layout) → WellFormedLeaf (real l) → (b : ℕ) → stands_for (real l) b ≡ pos b
real_reads l f b = ap (λ (k : Layout). valued k.signed k.precision b) f

-- so the number of a real is its 64 bits
record Bits (z : ℤ) : Type 0 where
  is : z ≡ pos (real_bits z)
  fits : real_bits z < 2 ^ 64

real_bits_lem : (l : Layout) (z : ℤ) → WellFormedLeaf (real l) → InRange (real l) z → Bits z
unfolding InRange
real_bits_lem l z f h =
    let e : (fitted (binary64 l.order) z).kind ≡ 0 = subst (λ (k : Layout). (fitted k z).kind ≡ 0) f h in
    let i : pos (fitted (binary64 l.order) z).raw ≡ z = fitted_back false 64 z (omega arith) e in
    let q : (fitted (binary64 l.order) z).raw ≡ real_bits z = ap real_bits i in
    record { is = sym i ∙ ap pos q; fits = subst (λ (b : ℕ). b < 2 ^ 64) q (fitted_lt false 64 z (omega arith)) }

real_precision : (l : Layout) → WellFormedLeaf (real l) → l.precision ≡ 64
real_precision l f = ap (λ (k : Layout). k.precision) f

-- ---- what is written has the leaf's bits

pub into_atomic_lt : (x : Leaf) (l : Layout) (z : ℤ) → Valid l → (converted x (atomic l) z).raw < 2 ^ l.precision
into_atomic_lt (atomic k) l z g = fitted_lt l.signed l.precision z g.some
into_atomic_lt (enumeration k ss) l z g = fitted_lt l.signed l.precision z g.some
into_atomic_lt (real k) l z g = real_int_fits l (real_bits z) g

into_real_lt : (x : Leaf) (z : ℤ) → WellFormedLeaf x → InRange x z → (int_to_real z).raw < 2 ^ 64
unfolding InRange
into_real_lt x z f h = int_real_lt (layout_of x) z (valid x f) h

pub converted_lt : (x y : Leaf) (z : ℤ) → WellFormedLeaf x → WellFormedLeaf y → InRange x z → (converted x y z).raw < 2 ^ (layout_of y).precision
converted_lt x (atomic l) z f g h = into_atomic_lt x l z g
converted_lt x (enumeration l ts) z f g h = go (translated (symbols x) ts z)
  where
    go : (o : Option ℤ) → (on_some (translated_to l (given_of x z)) (untranslated l (given_of x z)) o).raw < 2 ^ l.precision
    go none = ones_lt l.precision
    go (some w) = fitted_lt l.signed l.precision w g.base.some
converted_lt (atomic k) (real l) z f g h = rw (real_precision l g) (into_real_lt (atomic k) z f h)
converted_lt (enumeration k ss) (real l) z f g h = rw (real_precision l g) (into_real_lt (enumeration k ss) z f h)
converted_lt (real k) (real l) z f g h = rw (real_precision l g) (real_bits_lem k z f h).fits

-- ---- what was given

-- the matched number itself, by its leaf: of an enum the source's, of a real its 64 bits
pub given_matched : (x y : Leaf) (z : ℤ) → (converted x y z).given ≡ given_of x z
unfolding int_to_real
given_matched (atomic k) (atomic l) z = fitted_given l z
given_matched (enumeration k ss) (atomic l) z = fitted_given l z
given_matched (real k) (atomic l) z = real_given l (real_bits z)
given_matched x (enumeration l ts) z = go (translated (symbols x) ts z)
  where
    go : (o : Option ℤ) → (on_some (translated_to l (given_of x z)) (untranslated l (given_of x z)) o).given ≡ given_of x z
    go none = refl
    go (some w) = refl
given_matched (atomic k) (real l) z = refl
given_matched (enumeration k ss) (real l) z = refl
given_matched (real k) (real l) z = refl

-- ---- what arrives

into_real_arrives : (x : Leaf) (l : Layout) (z : ℤ) → WellFormedLeaf x → WellFormedLeaf (real l) → InRange x z → (int_to_real z).kind ≡ 0
    → equals (real_bits (stands_for (real l) (int_to_real z).raw)) z ≡ true
unfolding InRange
into_real_arrives x l z f g h e = rw (real_reads l g (int_to_real z).raw) (int_real_arrives (layout_of x) z (valid x f) h e)

pub arrives : (x y : Leaf) (z : ℤ) → WellFormedLeaf x → WellFormedLeaf y → InRange x z → (converted x y z).kind ≡ 0
    → Arrives x y z (stands_for y (converted x y z).raw)
arrives (atomic k) (atomic l) z f g h e = fitted_back l.signed l.precision z g.some e
arrives (enumeration k ss) (atomic l) z f g h e = fitted_back l.signed l.precision z g.some e
arrives (real k) (atomic l) z f g h e = real_int_arrives l (real_bits z) g (real_bits_lem k z f h).fits e
arrives x (enumeration l ts) z f g h e = go (translated (symbols x) ts z) e
  where
    go : (o : Option ℤ) → (on_some (translated_to l (given_of x z)) (untranslated l (given_of x z)) o).kind ≡ 0 → o ≡ some (stands_for (enumeration l ts) (on_some (translated_to l (given_of x z)) (untranslated l (given_of x z)) o).raw)
    go none d = let no : ◌≡◌ {A = ℕ} 3 0 = d in absurd (omega arith)
    go (some w) d = ap (λ (v : ℤ). some v) (sym (fitted_back l.signed l.precision w g.base.some d))
arrives (atomic k) (real l) z f g h e = into_real_arrives (atomic k) l z f g h e
arrives (enumeration k ss) (real l) z f g h e = into_real_arrives (enumeration k ss) l z f g h e
arrives (real k) (real l) z f g h e = real_reads l g (real_bits z) ∙ sym (real_bits_lem k z f h).is

-- a symbol's number is in range: an enum raises kind 3 or nothing
pub listed_in_range : (l : Layout) (ss : List Symbol) (x : List ℕ) (z : ℤ) → Symbols l ss → number_of x ss ≡ some z → (fitted l z).kind ≡ 0
unfolding number_of
listed_in_range l [] x z f e = nothing e
listed_in_range l (s ∷ ss) x z f e = go (same x s.name) e (λ g. listed_in_range l ss x z f.1 g)
  where
    go : (t : Bool) → cond t (some s.number) (number_of x ss) ≡ some z → (number_of x ss ≡ some z → (fitted l z).kind ≡ 0) → (fitted l z).kind ≡ 0
    go true g next =
        let i : s.number ≡ z = cc in
        rw (← i) f.0.in_range
    go false g next = next g

pub enum_kind : (x : Leaf) (l : Layout) (ts : List Symbol) (z : ℤ) → WellFormedLeaf (enumeration l ts) → ((converted x (enumeration l ts) z).kind ≡ 3) ⊎ ((converted x (enumeration l ts) z).kind ≡ 0)
enum_kind x l ts z f = go (symbol_of z (symbols x))
  where
    at : (y : List ℕ) (o : Option ℤ) → number_of y ts ≡ o → ((on_some (translated_to l (given_of x z)) (untranslated l (given_of x z)) o).kind ≡ 3) ⊎ ((on_some (translated_to l (given_of x z)) (untranslated l (given_of x z)) o).kind ≡ 0)
    at y none q = inl refl
    at y (some w) q = inr (listed_in_range l ts y w f.symbols q)

    go : (o : Option (List ℕ)) → ((on_some (translated_to l (given_of x z)) (untranslated l (given_of x z)) (on_some (λ y. number_of y ts) none o)).kind ≡ 3) ⊎ ((on_some (translated_to l (given_of x z)) (untranslated l (given_of x z)) (on_some (λ y. number_of y ts) none o)).kind ≡ 0)
    go none = inl refl
    go (some y) = at y (number_of y ts) refl

-- ---- there and back

-- the number w that z became raises nothing on the way back, and becomes z
pub record Returns (x y : Leaf) (z w : ℤ) : Type 0 where
  pub quiet : (converted y x w).kind ≡ 0
  pub same : stands_for x (converted y x w).raw ≡ z

plain_back : (l k : Layout) (z : ℤ) → Valid l → Valid k → (fitted l z).kind ≡ 0 → (fitted k z).kind ≡ 0
    → let w = valued k.signed k.precision (fitted k z).raw in ((fitted l w).kind ≡ 0) × (valued l.signed l.precision (fitted l w).raw ≡ z)
plain_back l k z f g h e =
    let i : valued k.signed k.precision (fitted k z).raw ≡ z = fitted_back k.signed k.precision z g.some e in
    rw i (h, fitted_back l.signed l.precision z f.some h)

pub leaf_back : (x y : Leaf) (z : ℤ) → WellFormedLeaf x → WellFormedLeaf y → leaf_path x y ≡ true → InRange x z → (converted x y z).kind ≡ 0
    → Returns x y z (stands_for y (converted x y z).raw)
unfolding InRange
leaf_back (atomic l) (atomic k) z f g c h e =
    let t = plain_back l k z f g h e in
    record { quiet = t.0; same = t.1 }
leaf_back (atomic l) (enumeration k ts) z f g c h e = absurd (false≢true c)
leaf_back (atomic l) (real k) z f g c h e =
    let t = int_real_back l z f h e in
    let w : stands_for (real k) (int_to_real z).raw ≡ pos (int_to_real z).raw = real_reads k g (int_to_real z).raw in
    record { quiet = rw w t.0; same = rw w t.1 }
leaf_back (enumeration l ss) (real k) z f g c h e = absurd (false≢true c)
leaf_back (real l) (atomic k) z f g c h e =
    let b = real_bits_lem l z f h in
    let t = real_int_back k (real_bits z) g b.fits e in
    record { quiet = t.0; same = real_reads l f _ ∙ ap pos t.1 ∙ sym b.is }
leaf_back (real l) (enumeration k ts) z f g c h e = absurd (false≢true c)
leaf_back (real l) (real k) z f g c h e =
    let b = real_bits_lem l z f h in
    record { quiet = refl; same = real_reads l f _ ∙ ap (λ (w : ℤ). pos (real_bits w)) (real_reads k g (real_bits z)) ∙ sym b.is }
leaf_back (enumeration l ss) (atomic k) z f g c h e = absurd (false≢true c)
leaf_back (enumeration l ss) (enumeration k ts) z f g c h e = go (translated ss ts z) refl e
  where
    go : (o : Option ℤ) → translated ss ts z ≡ o → (on_some (translated_to k (number_given z)) (untranslated k (number_given z)) o).kind ≡ 0
        → Returns (enumeration l ss) (enumeration k ts) z (stands_for (enumeration k ts) (on_some (translated_to k (number_given z)) (untranslated k (number_given z)) (translated ss ts z)).raw)
    go none q d = let no : ◌≡◌ {A = ℕ} 3 0 = d in absurd (omega arith)
    go (some w) q d =
        let i : valued k.signed k.precision (fitted k w).raw ≡ w = fitted_back k.signed k.precision w g.base.some d in
        let j : translated ts ss w ≡ some z = translated_back l k ss ts z w f.symbols g.symbols q in
        subst (Returns (enumeration l ss) (enumeration k ts) z) (sym (ap (λ (o : Option ℤ). stands_for (enumeration k ts) (on_some (translated_to k (number_given z)) (untranslated k (number_given z)) o).raw) q ∙ i))
        (record { quiet = ap (λ (o : Option ℤ). (on_some (translated_to l (number_given w)) (untranslated l (number_given w)) o).kind) j ∙ h; same = ap (λ (o : Option ℤ). stands_for (enumeration l ss) (on_some (translated_to l (number_given w)) (untranslated l (number_given w)) o).raw) j ∙ fitted_back l.signed l.precision z f.base.some h })
