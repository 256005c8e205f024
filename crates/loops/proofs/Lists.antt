-- Laws on lists and products that the record loops share. Nothing here knows what a record is. Assumes nothing.
use mathlib.Core.Path.{◌≡◌, refl, sym, ap, subst, ◌∙◌}
use mathlib.Core.List.{List, [], ◌∷◌, ◌++◌, append_assoc}
use Prim.Native.Nat.{ℕ, zero, suc, ◌+◌, ◌*◌, ◌-◌, ◌≤◌, ◌<◌}
use native.Mathlib.Nat.{not-suc-le-zero, le_of_suc-le-suc, suc-mul, mul-le-mul_right, le_refl}
use native.Mathlib.Numerals.{add-one}
use native.Mathlib.Omega.{arith}
use lib.ListN.{length, take, drop, set, get_or, length-append, length-drop, take-append-drop}
use lib.Seq.{take-add, take_at, drop_at, drop-drop, take-take, take-append-le, length-take-le}
use borrow.Rule.Slice.PartMut.{put_mid}
use Rattle.easy.proofs.Lent.{lent_whole}
use Rattle.loops.specs.Steps.{put}

copy_suc : (j : ℕ) (s d : List ℕ) → j < length s → j < length d → set (take j s ++ drop j d) j (get_or s j 0) ≡ take (suc j) s ++ drop (suc j) d
copy_suc j [] d h k = absurd (not-suc-le-zero h)
copy_suc j (x ∷ s) [] h k = absurd (not-suc-le-zero k)
copy_suc zero (x ∷ s) (y ∷ d) h k = refl
copy_suc (suc j) (x ∷ s) (y ∷ d) h k = ap (λ (t : List ℕ). x ∷ t) (copy_suc j s d (le_of_suc-le-suc h) (le_of_suc-le-suc k))

-- one byte more is copied
pub copy_more : (j : ℕ) (s d : List ℕ) → j < length s → j < length d → set (take j s ++ drop j d) j (get_or s j 0) ≡ take (j + 1) s ++ drop (j + 1) d
copy_more j s d h k = rw add-one (copy_suc j s d h k)

-- ---- products, for omega's list

pub row_within : {i n : ℕ} (d : ℕ) → i < n → i * d + d ≤ n * d
row_within {i} {n} d h = rw suc-mul at (mul-le-mul_right d h)

pub row_next : (i d : ℕ) → (i + 1) * d ≡ i * d + d
row_next i d = rw (add-one, suc-mul)

-- ---- a part of a slice that is lent from a to the end

-- the callee replaced the first d elements of the part by r: so are those of the whole from a on
pub lent_front : (a d : ℕ) (r l e : List ℕ) → e ≡ r ++ drop d (drop a l) → put_mid a (length l - a) l e ≡ put a d r l
lent_front a d r l e h = lent_whole a l e ∙ rw (h, drop-drop)

-- ---- lists that agree from an index on, or up to one, agree on less

pub drop_agree : (p m : ℕ) (x y : List ℕ) → p ≤ m → drop p x ≡ drop p y → drop m x ≡ drop m y
drop_agree p m x y h e =
    let q : p + (m - p) ≡ m = omega arith in
    subst (λ (k : ℕ). drop k x ≡ drop k y) q (sym (drop-drop (m - p) p x) ∙ ap (λ (l : List ℕ). drop (m - p) l) e ∙ drop-drop (m - p) p y)

pub take_agree : (p m : ℕ) (x y : List ℕ) → m ≤ p → take p x ≡ take p y → take m x ≡ take m y
take_agree p m x y h e = sym (take-take m p x h) ∙ ap (λ (l : List ℕ). take m l) e ∙ take-take m p y h

part_of_take : (p s : ℕ) (x : List ℕ) → p ≤ length x → drop p (take (p + s) x) ≡ take s (drop p x)
part_of_take p s x h = rw take-add (drop_at (take p x) (take s (drop p x)) p (length-take-le p x h))

pub part_agree : (p s : ℕ) (x y : List ℕ) → p ≤ length x → p ≤ length y → take (p + s) x ≡ take (p + s) y → take s (drop p x) ≡ take s (drop p y)
part_agree p s x y h k e = sym (part_of_take p s x h) ∙ ap (λ (l : List ℕ). drop p l) e ∙ part_of_take p s y k

-- two halves make the whole
pub whole_agree : (p : ℕ) (x y : List ℕ) → take p x ≡ take p y → drop p x ≡ drop p y → x ≡ y
whole_agree p x y h k = sym (take-append-drop p x) ∙ rw (h, k) (take-append-drop p y)

-- ---- the elements from a on replaced by r

module _ (a d : ℕ) (r l : List ℕ) (fits : a + d ≤ length l) (len : length r ≡ d) where
  before : length (take a l) ≡ a
  before = length-take-le a l (omega arith)

  front : length (take a l ++ r) ≡ a + d
  front = rw (length-append, before, len)

  pub put_length : length (put a d r l) ≡ length l
  put_length = simp (length-append, length-drop, before) (omega arith)

  pub put_take : (m : ℕ) → m ≤ a → take m (put a d r l) ≡ take m l
  put_take m h = take-append-le m (take a l) (r ++ drop (a + d) l) (rw before h) ∙ take-take m a l h

  pub put_drop_at : drop (a + d) (put a d r l) ≡ drop (a + d) l
  put_drop_at = rw (← append_assoc) (drop_at (take a l ++ r) (drop (a + d) l) (a + d) front)

  pub put_drop : (m : ℕ) → a + d ≤ m → drop m (put a d r l) ≡ drop m l
  put_drop m h = drop_agree (a + d) m (put a d r l) l h put_drop_at

  pub put_here : take d (drop a (put a d r l)) ≡ r
  put_here = rw (drop_at (take a l) (r ++ drop (a + d) l) a before) (take_at r (drop (a + d) l) d len)

  pub put_put : (q : List ℕ) → put a d q (put a d r l) ≡ put a d q l
  put_put q = rw (put_take a (le_refl a), put_drop_at)

  -- a result w is reached up to a, and r is its next part: it is reached up to a + d
  pub put_up : (w : List ℕ) → take a l ≡ take a w → take d (drop a w) ≡ r → take (a + d) (put a d r l) ≡ take (a + d) w
  put_up w h k = rw (← append_assoc) (take_at (take a l ++ r) (drop (a + d) l) (a + d) front ∙ rw (take-add, h, k))

  -- a result w is reached from a + d on, and r is the part before: it is reached from a on
  pub put_down : (w : List ℕ) → drop (a + d) l ≡ drop (a + d) w → take d (drop a w) ≡ r → drop a (put a d r l) ≡ drop a w
  put_down w h k = drop_at (take a l) (r ++ drop (a + d) l) a before ∙ rw (h, ← k, ← drop-drop, take-append-drop)
