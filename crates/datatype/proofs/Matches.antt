-- Matches and leaves: where they lie, that leaves are apart, and that matching and paths go both ways. Assumes nothing.
use mathlib.Core.Path.{◌≡◌, refl, sym, ◌∙◌, subst}
use mathlib.Core.Logic.{◌⊎◌, inl, inr}
use mathlib.Core.Bool.{true, false≢true}
use mathlib.Core.List.{List, [], ◌∷◌}
use mathlib.Core.Option.{some}
use Prim.Native.Nat.{ℕ, ◌+◌, ◌≤◌, ◌<◌}
use native.Mathlib.Nat.{lt_of_not-le, mul-le-mul}
use native.Mathlib.Decide.{dec_le}
use native.Mathlib.Omega.{arith}
use Rattle.layout.specs.declared.Class.{Class}
use Rattle.layout.specs.declared.Class.TheVariants.{Int, Bits}
use Rattle.datatype.specs.Datatype.{Leaf, leaf_size, Datatype, Members, size, elements, same}
use Rattle.datatype.specs.Datatype.Leaf.{atomic, enumeration, real}
use Rattle.datatype.specs.Datatype.Datatype.{leaf, compound, array}
use Rattle.datatype.specs.Datatype.Members.{empty, member}
use Rattle.datatype.specs.Leaves.{leaf_at}
use Rattle.datatype.specs.Paths.{is_same_class, leaf_path, Lookup, on_found, member_named, has_path, paths_to}
use Rattle.datatype.specs.Paths.Lookup.{missing, found}
use Rattle.datatype.specs.Matches.{match_at}
use Rattle.datatype.specs.Matches.Match.{matched}
use Rattle.datatype.specs.WellFormed.{EachSome, WellFormed, WellFormedIn}
use Rattle.datatype.proofs.Tests.{nothing, and_true, both, same→eq, same_refl}
use Rattle.datatype.proofs.Ways.{Way, flip, not_found, found_first, found_later, found_cases, same_type, formed_found, valid, leaf_pos, way_range, way_formed, way_match, way_leaf, way_alone, match_way, leaf_way}
use Rattle.datatype.proofs.Ways.Way.{here, inside, element}

-- ---- paths

-- every pair of members of one name has a path
paths_found : (ss ms : Members) → paths_to ss ms ≡ true → (n : List ℕ) {p o : ℕ} {S T : Datatype} → member_named n ss ≡ found p S → member_named n ms ≡ found o T
    → has_path S T ≡ true
unfolding member_named has_path
paths_found ss empty e n i j = not_found j
paths_found ss (member x q X word ms) e n {p} {o} {S} {T} i j =
    go (paths_found ss ms (and_true (on_found (λ r U. has_path U X) true (member_named x ss)) (paths_to ss ms) e).1 n i) (found_cases n x q o X T word ms j)
  where
    go : (member_named n ms ≡ found o T → has_path S T ≡ true) → ((n ≡ x) × (found q X ≡ found o T)) ⊎ (member_named n ms ≡ found o T) → has_path S T ≡ true
    go next (inl f) =
        let first : on_found (λ r U. has_path U X) true (member_named x ss) ≡ true = (and_true (on_found (λ r U. has_path U X) true (member_named x ss)) (paths_to ss ms) e).0 in
        rw (← same_type f.1) (rw (← f.0, i) at first)
    go next (inr f) = next f

found_paths : (ss ms : Members) (w : ℕ) → WellFormedIn w ms
    → ((n : List ℕ) (p o : ℕ) (S T : Datatype) → member_named n ss ≡ found p S → member_named n ms ≡ found o T → has_path S T ≡ true) → paths_to ss ms ≡ true
unfolding has_path
found_paths ss empty w f all = refl
found_paths ss (member x q X word ms) w f all =
    both (on_found (λ r U. has_path U X) true (member_named x ss)) (paths_to ss ms) (first (member_named x ss) refl)
    (found_paths ss ms w f.2 (λ n p o S T i j. all n p o S T i (found_later n x q o X T word ms f.0.name_once j)))
  where
    first : (h : Lookup) → member_named x ss ≡ h → on_found (λ r U. has_path U X) true h ≡ true
    first missing e = refl
    first (found r U) e = all x r q U X e (found_first x q X word ms)

class_back : (c d : Class) → is_same_class c d ≡ true → is_same_class d c ≡ true
class_back Int Int e = refl
class_back Int Bits e = absurd (false≢true e)
class_back Bits Int e = absurd (false≢true e)
class_back Bits Bits e = refl

leaf_back : (x y : Leaf) → leaf_path x y ≡ true → leaf_path y x ≡ true
leaf_back (atomic l) (atomic k) e = class_back l.class k.class e
leaf_back (atomic l) (enumeration k ts) e = absurd (false≢true e)
leaf_back (atomic l) (real k) e = class_back l.class Int e
leaf_back (enumeration l ss) (atomic k) e = absurd (false≢true e)
leaf_back (enumeration l ss) (enumeration k ts) e = refl
leaf_back (enumeration l ss) (real k) e = absurd (false≢true e)
leaf_back (real l) (atomic k) e = class_back Int k.class e
leaf_back (real l) (enumeration k ts) e = absurd (false≢true e)
leaf_back (real l) (real k) e = refl

either : (n x : List ℕ) (q o : ℕ) (X T : Datatype) (ms : Members) (S : Datatype) → (has_path S X ≡ true → has_path X S ≡ true)
    → (member_named n ms ≡ found o T → has_path T S ≡ true)
    → has_path S T ≡ true → ((n ≡ x) × (found q X ≡ found o T)) ⊎ (member_named n ms ≡ found o T) → has_path T S ≡ true
either n x q o X T ms S first next e (inl f) = subst (λ (U : Datatype). has_path S U ≡ true → has_path U S ≡ true) (same_type f.1) first e
either n x q o X T ms S first next e (inr f) = next f

mutual
  unfolding member_named has_path

  back : (D S : Datatype) → WellFormed S → WellFormed D → has_path S D ≡ true → has_path D S ≡ true
  back (leaf y) (leaf x) f g e = leaf_back x y e
  back (leaf y) (compound z ss) f g e = absurd (false≢true e)
  back (leaf y) (array z es S) f g e = absurd (false≢true e)
  back (compound w ms) (leaf x) f g e = absurd (false≢true e)
  back (compound w ms) (compound z ss) f g e =
      found_paths ms ss z f.1 (λ n o p T S j i. backs ms w g.1 n o T j S (formed_found z ss n f.1 i).1 (paths_found ss ms e n i j))
  back (compound w ms) (array z es S) f g e = absurd (false≢true e)
  back (array w ds T) (leaf x) f g e = absurd (false≢true e)
  back (array w ds T) (compound z ss) f g e = absurd (false≢true e)
  back (array w ds T) (array z es S) f g e =
      let h : (same es ds ≡ true) × (has_path S T ≡ true) = and_true (same es ds) (has_path S T) e in
      both (same ds es) (has_path T S) (rw (same→eq es ds h.0) (same_refl ds)) (back T S f.1 g.1 h.1)

  backs : (ms : Members) (w : ℕ) → WellFormedIn w ms → (n : List ℕ) (o : ℕ) (T : Datatype) → member_named n ms ≡ found o T → (S : Datatype) → WellFormed S
      → has_path S T ≡ true → has_path T S ≡ true
  backs empty w g n o T j S f e = not_found j
  backs (member x q X word ms) w g n o T j S f e =
      either n x q o X T ms S (λ h. back X S f g.1 h) (λ i. backs ms w g.2 n o T i S f e) e (found_cases n x q o X T word ms j)

pub way_path : {S D : Datatype} {a b : ℕ} {x y : Leaf} → Way S D a b x y → has_path S D ≡ true → leaf_path x y ≡ true
unfolding has_path
way_path here e = e
way_path (inside {ss = ss} {ms = ms} n i j t) e = way_path t (paths_found ss ms e n i j)
way_path (element {es = es} {ds = ds} {S = S} {T = T} k q h t) e = way_path t (and_true (same es ds) (has_path S T) e).1

-- ---- the laws

pub elements_some : (ds : List ℕ) → EachSome ds → 1 ≤ elements ds
elements_some [] h = omega arith
elements_some (d ∷ ds) h = mul-le-mul h.0 (elements_some ds h.1)

-- a datatype has bytes, and no more than the staging record's 4,096
pub size_some : (T : Datatype) → WellFormed T → 1 ≤ size T
size_some (leaf a) f = leaf_pos a f
size_some (compound z ms) f = f.0.some
size_some (array z ds T) f = rw f.0.product (mul-le-mul (elements_some ds f.0.each) (size_some T f.1))

pub size_most : (T : Datatype) → WellFormed T → size T ≤ 4096
size_most (leaf a) f = omega (arith, (valid a f).sized)
size_most (compound z ms) f = f.0.most
size_most (array z ds T) f = f.0.most

-- Paths are symmetric: a path leads back.
pub path_back : (S D : Datatype) → WellFormed S → WellFormed D → has_path S D ≡ true → has_path D S ≡ true
path_back S D f g e = back D S f g e

module _ (S D : Datatype) (f : WellFormed S) (g : WellFormed D) where
  -- a matched leaf lies inside its record, and so does the leaf that it is matched with in the other one
  pub in_range : (b a : ℕ) (x y : Leaf) → match_at S D b ≡ matched a x y → (b + leaf_size y ≤ size D) × (a + leaf_size x ≤ size S)
  in_range b a x y e =
      let t : Way S D a b x y = match_way D S g e in
      (way_range t g, way_range (flip t) f)

  -- Matching is symmetric: "the same names, and in arrays the same row-major place".
  pub match_back : (b a : ℕ) (x y : Leaf) → match_at S D b ≡ matched a x y → match_at D S a ≡ matched b y x
  match_back b a x y e = way_match (flip (match_way D S g e)) g f

  -- what is matched is a leaf
  pub match_leaf_lem : (b a : ℕ) (x y : Leaf) → match_at S D b ≡ matched a x y → leaf_at D b ≡ some y
  match_leaf_lem b a x y e = way_leaf (match_way D S g e) g

  pub match_formed : (b a : ℕ) (x y : Leaf) → match_at S D b ≡ matched a x y → WellFormed (leaf x) × WellFormed (leaf y)
  match_formed b a x y e =
      let t : Way S D a b x y = match_way D S g e in
      (way_formed (flip t) f, way_formed t g)

  pub match_path : has_path S D ≡ true → (b a : ℕ) (x y : Leaf) → match_at S D b ≡ matched a x y → leaf_path x y ≡ true
  match_path h b a x y e = way_path (match_way D S g e) h

-- "not overlapping": two leaves never share a byte
pub leaves_apart : (D : Datatype) → WellFormed D → (b c : ℕ) (y v : Leaf) → leaf_at D b ≡ some y → leaf_at D c ≡ some v → b < c → b + leaf_size y ≤ c
leaves_apart D g b c y v e h l = go (dec_le (b + leaf_size y) c)
  where
    go : Dec (b + leaf_size y ≤ c) → b + leaf_size y ≤ c
    go (yes k) = k
    go (no k) = nothing (sym (way_alone (leaf_way D g e) g c l (lt_of_not-le k)) ∙ h)
