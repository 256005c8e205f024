-- The bytes and the leaves of one record of a buffer. Assumes nothing.
use mathlib.Core.Path.{◌≡◌, sym, ap, ◌∙◌}
use mathlib.Core.Logic.{◌⊎◌, inl, inr, ⊎_elim}
use mathlib.Core.List.{List}
use Prim.Native.Nat.{ℕ, zero, suc, ◌+◌, ◌*◌, ◌%◌, ◌≤◌, ◌<◌}
use native.Mathlib.Nat.{lt_of_not-le, mul-add-mod_self_right, mod-eq_of_lt, eq_of_mul-eq-mul_right, eq-or-lt_of_le}
use native.Mathlib.Decide.{dec_le}
use native.Mathlib.Omega.{arith}
use lib.ListN.{length, get_or, drop, length-take, get_or-eq_default}
use lib.Seq.{get_or-take, get_or-drop}
use Rattle.bits.specs.Container.{container, bit}
use Rattle.number.specs.Place.{place}
use Rattle.datatype.specs.Datatype.{Leaf, layout_of, leaf_size, Datatype}
use Rattle.datatype.specs.Matches.{match_at}
use Rattle.datatype.specs.Matches.Match.{matched}
use Rattle.datatype.specs.WellFormed.{WellFormedLeaf, WellFormed}
use Rattle.datatype.proofs.Ways.{valid}
use Rattle.datatype.proofs.Matches.{match_back, match_leaf_lem, leaves_apart}
use Rattle.records.specs.Records.{record_at}
use Rattle.records.proofs.ManyRecords.{record_length}
use Rattle.masks.specs.Says.{byte_of}
use Rattle.masks.proofs.Bits.{byte_lt, place_bit}
use Rattle.mask_promises.specs.Bits.{AreBytes}

-- ---- bytes

-- byte j of record i
pub byte_in : (w i j : ℕ) (s : List ℕ) → j < w → get_or (record_at w i s) j 0 ≡ get_or s (i * w + j) 0
byte_in w i j s h = get_or-take w (drop (i * w) s) j 0 h ∙ get_or-drop (i * w) s j 0

pub record_bytes : (w i : ℕ) (s : List ℕ) → AreBytes s → AreBytes (record_at w i s)
record_bytes w i s hb j = at (dec_le w j)
  where
    at : Dec (w ≤ j) → get_or (record_at w i s) j 0 < 256
    at (yes h) = rw (get_or-eq_default (record_at w i s) 0 {n = j} (rw (length-take w (drop (i * w) s)) (omega arith))) (omega arith)
    at (no h) = rw (byte_in w i j s (lt_of_not-le h)) (hb (i * w + j))

-- a byte of a buffer is one byte of one record
pub one_byte : (w i j k t : ℕ) → j < w → t < w → i * w + j ≡ k * w + t → (i ≡ k) × (j ≡ t)
one_byte w i j k t h l e =
    let m : j ≡ t =
    sym (mul-add-mod_self_right i w j ∙ mod-eq_of_lt h) ∙ ap (λ (x : ℕ). x % w) e ∙ (mul-add-mod_self_right k w t ∙ mod-eq_of_lt l) in
    let z : i * w ≡ k * w = omega arith in
    (eq_of_mul-eq-mul_right w (omega arith) i k z, m)

-- ---- leaves

-- bit k of the container of the leaf x in record i
pub leaf_bit : (w n i : ℕ) (s : List ℕ) (x : Leaf) (a : ℕ) → n * w ≤ length s → AreBytes s → i < n → WellFormedLeaf x → a + leaf_size x ≤ w
    → (k : ℕ) → k < (layout_of x).offset.0 + (layout_of x).precision
    → bit k (container (layout_of x).order (place (layout_of x) a (record_at w i s))) ≡ bit (k % 8) (get_or (record_at w i s) (a + byte_of (layout_of x).order (leaf_size x) k) 0)
leaf_bit w n i s x a room hb l f fits k h =
    place_bit (layout_of x).order (record_at w i s) a (leaf_size x) (rw (record_length w n i s room l) fits) (record_bytes w i s hb) k (omega (arith, (valid x f).inside))

-- that byte is one of the leaf
pub leaf_byte : (x : Leaf) → WellFormedLeaf x → (k : ℕ) → k < (layout_of x).offset.0 + (layout_of x).precision
    → byte_of (layout_of x).order (leaf_size x) k < leaf_size x
leaf_byte x f k h = byte_lt (layout_of x).order (leaf_size x) k (omega (arith, (valid x f).inside))

-- the source leaves of two matches share no byte
pub sources_apart : (S D : Datatype) → WellFormed S → WellFormed D → (b a : ℕ) (x y : Leaf) → match_at S D b ≡ matched a x y
    → (c d : ℕ) (u v : Leaf) → match_at S D c ≡ matched d u v → ¬ (c ≡ b) → (d + leaf_size u ≤ a) ⊎ (a + leaf_size x ≤ d)
sources_apart S D f g b a x y m c d u v h other = at (dec_le a d)
  where
    back : match_at D S a ≡ matched b y x
    back = match_back S D f g b a x y m

    back' : match_at D S d ≡ matched c v u
    back' = match_back S D f g c d u v h

    at : Dec (a ≤ d) → (d + leaf_size u ≤ a) ⊎ (a + leaf_size x ≤ d)
    at (no l) = inl (leaves_apart S f d a u x (match_leaf_lem D S g f d c v u back') (match_leaf_lem D S g f a b y x back) (lt_of_not-le l))
    at (yes l) =
        ⊎_elim
        (λ (e : a ≡ d).
        let i : matched b y x ≡ matched c v u = sym back ∙ ap (match_at D S) e ∙ back' in
        let j : c ≡ b = cc (i) in
        absurd (other j))
        (λ (t : a < d). inr (leaves_apart S f a d x u (match_leaf_lem D S g f a b y x back) (match_leaf_lem D S g f d c v u back') t)) (eq-or-lt_of_le l)

-- ---- two sums that differ in one summand

module _ (F G f g : ℕ → ℕ) (start : F 0 ≡ G 0) (F-next : (k : ℕ) → F (suc k) ≡ F k + f k) (G-next : (k : ℕ) → G (suc k) ≡ G k + g k)
    (n b : ℕ) (same : (k : ℕ) → k < n → ¬ (k ≡ b) → f k ≡ g k) where
  sum_before : (k : ℕ) → k ≤ n → k ≤ b → F k ≡ G k
  sum_before zero l h = start
  sum_before (suc k) l h =
      omega (arith, F-next k, G-next k, sum_before k (omega arith) (omega arith), same k l (λ (e : k ≡ b). omega arith))

  pub sum_with : (k : ℕ) → k ≤ n → b < k → F k + g b ≡ G k + f b
  sum_with zero l h = absurd (omega arith)
  sum_with (suc k) l h =
      ⊎_elim
      (λ (e : b ≡ k). rw e (omega (arith, F-next k, G-next k, sum_before k (omega arith) (omega arith))))
      (λ (t : b < k). omega (arith, F-next k, G-next k, sum_with k (omega arith) t, same k l (λ (e : k ≡ b). omega arith)))
      (eq-or-lt_of_le (omega arith))
