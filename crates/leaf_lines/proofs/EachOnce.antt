-- The list has a line for every leaf of the datatype and for nothing else, each once, in byte order. Assumes nothing.
use mathlib.Core.Path.{◌≡◌, refl, ap}
use mathlib.Core.Logic.{◌⊎◌, inl, inr}
use mathlib.Core.List.{List, [], ◌∷◌, ◌++◌, Memᴰ}
use mathlib.Core.Option.{Option, none, some}
use Prim.Native.Nat.{ℕ, zero, suc, ◌+◌, ◌≤◌, ◌<◌}
use native.Mathlib.Decide.{dec_lt}
use native.Mathlib.Numerals.{add-one}
use native.Mathlib.Omega.{arith}
use Rattle.datatype.specs.Datatype.{Leaf, leaf_size, Datatype, size}
use Rattle.datatype.specs.Symbols.{on_some}
use Rattle.datatype.specs.Leaves.{leaf_at}
use Rattle.datatype.specs.WellFormed.{WellFormed}
use Rattle.datatype.proofs.Ways.{Way, leaf_way, way_range, way_formed, leaf_pos}
use Rattle.datatype.proofs.Matches.{leaves_apart}
use Rattle.leaf_lines.specs.LeafList.{leaf_line, leaf_lines, header, leaf_list}

-- a leaf, and the byte at which it starts
pub record Place : Type 0 where
  pub at : ℕ
  pub leaf : Leaf

abbrev pub place : ℕ → Leaf → Place
place b x = record { at = b; leaf = x }

abbrev one : ℕ → Option Leaf → List Place
one b none = []
one b (some x) = place b x ∷ []

-- the leaves that start at the k bytes from b on, byte by byte
unfoldable pub places : Datatype → ℕ → ℕ → List Place
places T b zero = []
places T b (suc k) = one b (leaf_at T b) ++ places T (suc b) k

-- all leaves of a datatype
abbrev pub leaves : Datatype → List Place
leaves T = places T 0 (size T)

-- a line for each
abbrev pub lines_of : List Place → List ℕ
lines_of [] = []
lines_of (p ∷ ps) = leaf_line p.at p.leaf ++ lines_of ps

-- in byte order, no two at one byte: each starts at byte b or later, and the later ones behind it
abbrev pub Ascend : ℕ → List Place → Type 0
Ascend b [] = Unit {0}
Ascend b (p ∷ ps) = (b ≤ p.at) × Ascend (p.at + 1) ps

-- ---- the k bytes from b on

ascend_more : (b c : ℕ) (ps : List Place) → b ≤ c → Ascend c ps → Ascend b ps
ascend_more b c [] h a = a
ascend_more b c (p ∷ ps) h a = (omega (arith, a.0), a.1)

module _ (T : Datatype) where
  lines_places : (b k : ℕ) → leaf_lines T b k ≡ lines_of (places T b k)
  unfolding leaf_lines places
  lines_places b zero = refl
  lines_places b (suc k) = go (leaf_at T b) (lines_places (suc b) k)
    where
      go : (o : Option Leaf) → leaf_lines T (suc b) k ≡ lines_of (places T (suc b) k)
          → on_some (leaf_line b) [] o ++ leaf_lines T (suc b) k ≡ lines_of (one b o ++ places T (suc b) k)
      go none e = e
      go (some x) e = ap (λ (l : List ℕ). leaf_line b x ++ l) e

  places_ascend : (b k : ℕ) → Ascend b (places T b k)
  unfolding places
  places_ascend b zero = tt
  places_ascend b (suc k) = go (leaf_at T b) (places_ascend (suc b) k)
    where
      go : (o : Option Leaf) → Ascend (suc b) (places T (suc b) k) → Ascend b (one b o ++ places T (suc b) k)
      go none a = ascend_more b (suc b) (places T (suc b) k) (omega arith) a
      go (some x) a = (omega arith, rw (add-one b) a)

  only_leaves : (b k : ℕ) (p : Place) → Memᴰ p (places T b k) → leaf_at T p.at ≡ some p.leaf
  unfolding places
  only_leaves b zero p m = absurd (mathlib.Core.List.Memᴰ.not-nil m)
  only_leaves b (suc k) p m = go (only_leaves (suc b) k p) (leaf_at T b) refl (mathlib.Core.List.Memᴰ.append_cases (one b (leaf_at T b)) m)
    where
      go : (Memᴰ p (places T (suc b) k) → leaf_at T p.at ≡ some p.leaf) → (o : Option Leaf) → leaf_at T b ≡ o
          → Memᴰ p (one b o) ⊎ Memᴰ p (places T (suc b) k) → leaf_at T p.at ≡ some p.leaf
      go later none e (inl n) = absurd (mathlib.Core.List.Memᴰ.not-nil n)
      go later (some x) e (inl n) = rw (mathlib.Core.List.Memᴰ.eq_of_singleton n) e
      go later o e (inr n) = later n

  every_leaf : (b k c : ℕ) (x : Leaf) → leaf_at T c ≡ some x → b ≤ c → c < b + k → Memᴰ (place c x) (places T b k)
  unfolding places
  every_leaf b zero c x e h l = absurd (omega arith)
  every_leaf b (suc k) c x e h l = go (λ q. every_leaf (suc b) k c x e (omega arith) (omega arith)) (dec_lt b c)
    where
      go : (b < c → Memᴰ (place c x) (places T (suc b) k)) → Dec (b < c) → Memᴰ (place c x) (one b (leaf_at T b) ++ places T (suc b) k)
      go later (yes q) = mathlib.Core.List.Memᴰ.append_right (one b (leaf_at T b)) (later q)
      go later (no n) =
          let q : b ≡ c = omega arith in
          let m : Memᴰ (place c x) (place c x ∷ []) = mathlib.Core.List.Memᴰ.head refl in
          rw (q, e) (mathlib.Core.List.Memᴰ.append_left (places T (suc c) k) m)

-- ---- the laws

-- the list is the header and then a line for each of `leaves T`, in their order
pub list_of_leaves : (T : Datatype) → leaf_list T ≡ header ++ lines_of (leaves T)
unfolding leaf_list
list_of_leaves T = ap (λ (l : List ℕ). header ++ l) (lines_places T 0 (size T))

-- they stand in byte order, and no byte has two
pub leaves_ascend : (T : Datatype) → Ascend 0 (leaves T)
leaves_ascend T = places_ascend T 0 (size T)

-- each of them is a leaf of the datatype
pub leaves_only : (T : Datatype) (b : ℕ) (x : Leaf) → Memᴰ (place b x) (leaves T) → leaf_at T b ≡ some x
leaves_only T b x m = only_leaves T 0 (size T) (place b x) m

module _ (T : Datatype) (formed : WellFormed T) where
  -- a leaf has bytes, and they lie in the datatype
  pub leaf_inside : (b : ℕ) (x : Leaf) → leaf_at T b ≡ some x → (1 ≤ leaf_size x) × (b + leaf_size x ≤ size T)
  leaf_inside b x e =
      let way : Way T T b b x x = leaf_way T formed e in
      (leaf_pos x (way_formed way formed), way_range way formed)

  -- each leaf of the datatype is one of them
  pub leaves_every : (b : ℕ) (x : Leaf) → leaf_at T b ≡ some x → Memᴰ (place b x) (leaves T)
  leaves_every b x e =
      let inside : (1 ≤ leaf_size x) × (b + leaf_size x ≤ size T) = leaf_inside b x e in
      every_leaf T 0 (size T) b x e (omega arith) (omega (arith, inside.0, inside.1))

  -- the first of two leaves ends before the second starts
  pub lines_apart : (b c : ℕ) (x y : Leaf) → Memᴰ (place b x) (leaves T) → Memᴰ (place c y) (leaves T) → b < c → b + leaf_size x ≤ c
  lines_apart b c x y m n h = leaves_apart T formed b c x y (leaves_only T b x m) (leaves_only T c y n) h
