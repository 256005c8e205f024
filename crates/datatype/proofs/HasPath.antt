-- A path exists exactly where `hasPath` computes one. Assumes nothing.
use mathlib.Core.Path.{◌≡◌, refl, sym, subst}
use mathlib.Core.Logic.{◌↔◌, ⊎_elim}
use mathlib.Core.Bool.{true, false≢true}
use mathlib.Core.List.{List}
use Prim.Native.Nat.{ℕ}
use Rattle.layout.specs.declared.Class.{Class}
use Rattle.layout.specs.declared.Class.TheVariants.{Int, Bits}
use Rattle.datatype.specs.Datatype.{Leaf, Datatype, Members}
use Rattle.datatype.specs.Datatype.Leaf.{atomic, enumeration, real}
use Rattle.datatype.specs.Datatype.Datatype.{leaf, compound, array}
use Rattle.datatype.specs.Datatype.Members.{empty, member}
use Rattle.datatype.specs.Paths.{is_same_class, Lookup, on_found, member_named, is_leaf_like, is_compound, members_of, is_array_like, base_of, has_path, paths_to}
use Rattle.datatype.specs.Paths.Lookup.{missing, found}
use Rattle.datatype.specs.WellFormed.{WellFormed, WellFormedIn}
use Rattle.datatype.specs.HasPath.{HasPath}
use Rattle.datatype.specs.HasPath.HasPath.{same_class, enums, int_to_real_lem, real_to_int_lem, reals, arrays, compounds}
use Rattle.datatype.proofs.Tests.{and_true, both, same→eq, same_refl}
use Rattle.datatype.proofs.Ways.{not_found, found_first, found_later, found_cases, same_type}

class_same : (c d : Class) → is_same_class c d ≡ true → c ≡ d
class_same Int Int e = refl
class_same Int Bits e = absurd (false≢true e)
class_same Bits Int e = absurd (false≢true e)
class_same Bits Bits e = refl

same_itself : (c : Class) → is_same_class c c ≡ true
same_itself Int = refl
same_itself Bits = refl

leaf_path_lem : (S : Datatype) (y : Leaf) → is_leaf_like S y ≡ true → HasPath S (leaf y)
leaf_path_lem (leaf (atomic l)) (atomic k) e = same_class (class_same l.class k.class e)
leaf_path_lem (leaf (atomic l)) (enumeration k ts) e = absurd (false≢true e)
leaf_path_lem (leaf (atomic l)) (real k) e = int_to_real_lem (class_same l.class Int e)
leaf_path_lem (leaf (enumeration l ss)) (atomic k) e = absurd (false≢true e)
leaf_path_lem (leaf (enumeration l ss)) (enumeration k ts) e = enums
leaf_path_lem (leaf (enumeration l ss)) (real k) e = absurd (false≢true e)
leaf_path_lem (leaf (real l)) (atomic k) e = real_to_int_lem (sym (class_same Int k.class e))
leaf_path_lem (leaf (real l)) (enumeration k ts) e = absurd (false≢true e)
leaf_path_lem (leaf (real l)) (real k) e = reals
leaf_path_lem (compound z ss) y e = absurd (false≢true e)
leaf_path_lem (array z es T) y e = absurd (false≢true e)

-- each destination member has a path from the source member of its name
abbrev Each : Members → Members → Type 0
Each ss ms = (name : List ℕ) (p o : ℕ) (S D : Datatype) → member_named name ms ≡ found o D → member_named name ss ≡ found p S → HasPath S D

compound_path : (S : Datatype) (w : ℕ) (ms : Members) → is_compound S ≡ true → Each (members_of S) ms → HasPath S (compound w ms)
compound_path (leaf x) w ms e h = absurd (false≢true e)
compound_path (compound z ss) w ms e h = compounds h
compound_path (array z es T) w ms e h = absurd (false≢true e)

array_path : (S : Datatype) (w : ℕ) (ds : List ℕ) (D : Datatype) → is_array_like S ds ≡ true → HasPath (base_of S) D → HasPath S (array w ds D)
array_path (leaf x) w ds D e h = absurd (false≢true e)
array_path (compound z ss) w ds D e h = absurd (false≢true e)
array_path (array z es T) w ds D e h = arrays (same→eq es ds e) h

mutual
  unfolding member_named has_path

  path_said : (D S : Datatype) → has_path S D ≡ true → HasPath S D
  path_said (leaf y) S e = leaf_path_lem S y e
  path_said (compound w ms) S e =
      let h : (is_compound S ≡ true) × (paths_to (members_of S) ms ≡ true) = and_true (is_compound S) (paths_to (members_of S) ms) e in
      compound_path S w ms h.0 (λ n p o T U j i. each_said ms (members_of S) h.1 n p o T U j i)
  path_said (array w ds D) S e =
      let h : (is_array_like S ds ≡ true) × (has_path (base_of S) D ≡ true) = and_true (is_array_like S ds) (has_path (base_of S) D) e in
      array_path S w ds D h.0 (path_said D (base_of S) h.1)

  each_said : (ms ss : Members) → paths_to ss ms ≡ true → Each ss ms
  each_said empty ss e n p o S D j i = not_found j
  each_said (member x q X word ms) ss e n p o S D j i =
      let h : (on_found (λ c U. has_path U X) true (member_named x ss) ≡ true) × (paths_to ss ms ≡ true) =
      and_true (on_found (λ c U. has_path U X) true (member_named x ss)) (paths_to ss ms) e in
      ⊎_elim
      (λ (f : (n ≡ x) × (found q X ≡ found o D)).
      let first : has_path S X ≡ true = rw (← f.0, i) at h.0 in
      subst (HasPath S) (same_type f.1) (path_said X S first))
      (λ (f : member_named n ms ≡ found o D). each_said ms ss h.1 n p o S D f i) (found_cases n x q o X D word ms j)

said_leaf : {S : Datatype} {y : Leaf} → HasPath S (leaf y) → is_leaf_like S y ≡ true
said_leaf (same_class {l = l} e) = subst (λ (c : Class). is_same_class l.class c ≡ true) e (same_itself l.class)
said_leaf enums = refl
said_leaf (int_to_real_lem e) = rw e
said_leaf (real_to_int_lem e) = rw e
said_leaf reals = refl

said_compound : {S : Datatype} {w : ℕ} {ms : Members} → HasPath S (compound w ms) → (is_compound S ≡ true) × Each (members_of S) ms
said_compound (compounds h) = (refl, h)

said_array : {S D : Datatype} {w : ℕ} {ds : List ℕ} → HasPath S (array w ds D) → (is_array_like S ds ≡ true) × HasPath (base_of S) D
said_array (arrays {es = es} {ds = ds} e h) = (rw e (same_refl ds), h)

-- what is asked of a member that the source may have
on_found_lem : (x : List ℕ) (X : Datatype) (ss : Members) → ((p : ℕ) (S : Datatype) → member_named x ss ≡ found p S → has_path S X ≡ true)
    → on_found (λ c U. has_path U X) true (member_named x ss) ≡ true
on_found_lem x X ss h = go (member_named x ss) refl
  where
    go : (l : Lookup) → member_named x ss ≡ l → on_found (λ c U. has_path U X) true l ≡ true
    go missing e = refl
    go (found p S) e = h p S e

mutual
  unfolding has_path

  said_path : (D S : Datatype) → WellFormed D → HasPath S D → has_path S D ≡ true
  said_path (leaf y) S g h = said_leaf h
  said_path (compound w ms) S g h =
      let c : (is_compound S ≡ true) × Each (members_of S) ms = said_compound h in
      both (is_compound S) (paths_to (members_of S) ms) c.0 (said_each ms w (members_of S) g.1 c.1)
  said_path (array w ds D) S g h =
      let c : (is_array_like S ds ≡ true) × HasPath (base_of S) D = said_array h in
      both (is_array_like S ds) (has_path (base_of S) D) c.0 (said_path D (base_of S) g.1 c.1)

  said_each : (ms : Members) (w : ℕ) (ss : Members) → WellFormedIn w ms → Each ss ms → paths_to ss ms ≡ true
  said_each empty w ss g all = refl
  said_each (member x q X word ms) w ss g all =
      both (on_found (λ c U. has_path U X) true (member_named x ss)) (paths_to ss ms)
      (on_found_lem x X ss (λ p S i. said_path X S g.1 (all x p q S X (found_first x q X word ms) i)))
      (said_each ms w ss g.2 (λ n p o S D j i. all n p o S D (found_later n x q o X D word ms g.0.name_once j) i))

-- a path runs between well-formed types exactly as the definition computes it
pub has_path_lem : (S D : Datatype) → WellFormed D → has_path S D ≡ true ↔ HasPath S D
has_path_lem S D g = (path_said D S, said_path D S g)
