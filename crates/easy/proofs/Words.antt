-- Words written one after the other: what stands where afterwards. Assumes nothing.
use mathlib.Core.Path.{◌≡◌, refl, ◌∙◌}
use mathlib.Core.Bool.{Bool, true, false, cond, ◌&&◌, false≢true}
use mathlib.Core.List.{List, [], ◌∷◌}
use Prim.Native.Nat.{ℕ, zero, suc, ◌+◌, ◌-◌, ◌*◌, ◌≤◌, ◌<◌}
use native.Mathlib.Omega.{arith}
use lib.Dec.{eqb}
use lib.ListN.{length, get_or, set, replicate, length-set}
use lib.Seq.{get_or-set_same, get_or-set_other}
use borrow.Author.Tests.{leb-true, ltb-true}
use Rattle.layout.specs.declared.Layout.{Layout}
use Rattle.layout.specs.Layout.{valid, Valid}
use Rattle.layout.proofs.Valid.{facts}
use Rattle.table.specs.Records.{order_code}
use Rattle.entry_code.specs.Code.{packed, route_in}
use Rattle.entry_code.proofs.Packed.{route_back, shift_back, precision_back, size_back, order_back, route_zero}
use Rattle.easy.specs.Easy.{inside, easy, shift_of, words_of, easy_words, with_words}
use Rattle.easy.specs.Words.{EasyAt}
use Rattle.easy.proofs.Easy.{three, shift_small, order_small}

pub words_length : (xs w : List ℕ) (k : ℕ) → length (with_words w k xs) ≡ length w
unfolding with_words
words_length [] w k = refl
words_length (x ∷ xs) w k = words_length xs (set w k x) (k + 1) ∙ length-set w k x

-- words outside are as they were
pub words_below : (xs w : List ℕ) (k i : ℕ) → i < k → get_or (with_words w k xs) i 0 ≡ get_or w i 0
unfolding with_words
words_below [] w k i h = refl
words_below (x ∷ xs) w k i h = words_below xs (set w k x) (k + 1) i (omega arith) ∙ get_or-set_other w k i x 0 (λ e. omega (arith, e))

pub words_above : (xs w : List ℕ) (k i : ℕ) → k + length xs ≤ i → get_or (with_words w k xs) i 0 ≡ get_or w i 0
unfolding with_words
words_above [] w k i h = refl
words_above (x ∷ xs) w k i h = words_above xs (set w k x) (k + 1) i (omega arith) ∙ get_or-set_other w k i x 0 (λ e. omega (arith, e))

pub words_at_lem : (xs w : List ℕ) (k q : ℕ) → q < length xs → k + length xs ≤ length w → get_or (with_words w k xs) (k + q) 0 ≡ get_or xs q 0
unfolding with_words
words_at_lem [] w k q h room = absurd (omega arith)
words_at_lem (x ∷ xs) w k zero h room =
    let e : k + 0 ≡ k = omega arith in
    rw e (words_below xs (set w k x) (k + 1) k (omega arith) ∙ get_or-set_same w k x 0 (omega arith))
words_at_lem (x ∷ xs) w k (suc q) h room =
    let e : k + suc q ≡ k + 1 + q = omega arith in
    rw e (words_at_lem xs (set w k x) (k + 1) q (omega arith) (rw (length-set w k x) (omega arith)))

-- ---- the words of a pair

inside_le : (s t : Bool) (p q : ℕ) → inside s t p q ≡ true → p ≤ q
inside_le false false p q h = leb-true p q h
inside_le false true p q h = omega (arith, ltb-true p q h)
inside_le true false p q h = absurd (false≢true h)
inside_le true true p q h = leb-true p q h

-- a pair that has words
module _ (l m : Layout) (h : (valid l && (valid m && easy l m)) ≡ true) where
  tests : (valid l ≡ true) × (valid m ≡ true) × (easy l m ≡ true)
  tests = three (valid l) (valid m) (easy l m) h

  pub has_words : Valid l × Valid m × (l.precision ≤ m.precision)
  has_words = (
    facts l tests.0,
    facts m tests.1,
    inside_le l.signed m.signed l.precision m.precision
        (three (eqb m.offset.0 0) (eqb m.precision (8 * m.size.0)) (inside l.signed m.signed l.precision m.precision) tests.2).2,
  )

  -- the small numbers of the pair come out of the packed word
  abbrev code : ℕ
  code = packed (1 + order_code l.order) (shift_of l.order l.size.0 l.offset.0) l.precision m.size.0 (order_code m.order) 0

  route_low : 1 + order_code l.order < 8
  route_low = omega (arith, order_small l.order)

  shift_low : shift_of l.order l.size.0 l.offset.0 < 64
  shift_low = let v = facts l tests.0 in shift_small l.order l.size.0 l.offset.0 l.precision v.sized v.some v.inside

  precision_low : l.precision < 128
  precision_low = omega (arith, (facts l tests.0).most)

  size_low : m.size.0 < 16
  size_low = omega (arith, (facts m tests.1).sized)

  order_low : order_code m.order < 2
  order_low = omega (arith, order_small m.order)

  -- where they were written
  pub words_stand : (w : List ℕ) (k : ℕ) → k + 4 ≤ length w → EasyAt l m (with_words w k (words_of l m)) k
  words_stand w k room =
      let at : (q : ℕ) → q < 4 → get_or (with_words w k (words_of l m)) (k + q) 0 ≡ get_or (words_of l m) q 0 = λ q low. words_at_lem (words_of l m) w k q low room in
      let z : k + 0 ≡ k = omega arith in
      let first : get_or (with_words w k (words_of l m)) k 0 ≡ code = rw z at (at 0 (omega arith)) in
      record {
        valid = facts l tests.0;
        is = tests.2;
        order = rw first (route_back _ _ _ _ _ 0 route_low shift_low precision_low size_low order_low);
        shift = rw first (shift_back _ _ _ _ _ 0 route_low shift_low precision_low size_low order_low);
        precision = rw first (precision_back _ _ _ _ _ 0 route_low shift_low precision_low size_low order_low);
        carry = rw (at 1 (omega arith), at 2 (omega arith)) (omega arith);
        size = rw first (size_back _ _ _ _ _ 0 route_low shift_low precision_low size_low order_low);
        destination_order = rw first (order_back _ _ _ _ _ 0 route_low shift_low precision_low size_low order_low);
        most = (facts m tests.1).sized;
      }

-- zeros have the route 0
zeros_route : (w : List ℕ) (k : ℕ) → k + 4 ≤ length w → route_in (get_or (with_words w k (replicate 4 0)) k 0) ≡ 0
zeros_route w k room =
    let z : k + 0 ≡ k = omega arith in
    let first : get_or (with_words w k (replicate 4 0)) k 0 ≡ 0 = rw z at (words_at_lem (replicate 4 0) w k 0 (omega arith) room) in
    rw first route_zero

-- the route of any pair is 0, or its words stand there
pub easy_stands : (l m : Layout) (w : List ℕ) (k : ℕ) → k + 4 ≤ length w → (route_in (get_or (with_words w k (easy_words l m)) k 0) ≡ 0 → ⊥) → EasyAt l m (with_words w k (easy_words l m)) k
easy_stands l m w k room some = go (valid l && (valid m && easy l m)) refl some
  where
    go : (t : Bool) → (valid l && (valid m && easy l m)) ≡ t → (route_in (get_or (with_words w k (cond t (words_of l m) (replicate 4 0))) k 0) ≡ 0 → ⊥)
        → EasyAt l m (with_words w k (cond t (words_of l m) (replicate 4 0))) k
    go true e h = words_stand l m e w k room
    go false e h = absurd (h (zeros_route w k room))

-- it is none of an enum's
pub easy_route : (l m : Layout) (w : List ℕ) (k : ℕ) → k + 4 ≤ length w → route_in (get_or (with_words w k (easy_words l m)) k 0) < 3
easy_route l m w k room = go (valid l && (valid m && easy l m)) refl
  where
    go : (t : Bool) → (valid l && (valid m && easy l m)) ≡ t → route_in (get_or (with_words w k (cond t (words_of l m) (replicate 4 0))) k 0) < 3
    go true e = omega (arith, (words_stand l m e w k room).order, order_small l.order)
    go false e = omega (arith, zeros_route w k room)

-- they stand where each of them is kept
pub easy_kept : (l m : Layout) (v w : List ℕ) (k : ℕ) → ((q : ℕ) → q < 4 → get_or v (k + q) 0 ≡ get_or w (k + q) 0) → EasyAt l m w k → EasyAt l m v k
easy_kept l m v w k same e =
    let z : k + 0 ≡ k = omega arith in
    let first : get_or v k 0 ≡ get_or w k 0 = rw z at (same 0 (omega arith)) in
    rw (first, same 1 (omega arith), same 2 (omega arith)) e
