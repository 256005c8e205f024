-- The way from a datatype down to a leaf, in two datatypes at once, and what it says of matches and leaves. Assumes nothing.
use mathlib.Core.Path.{◌≡◌, refl, sym, ap, ◌∙◌, subst, subst₂}
use mathlib.Core.Logic.{◌⊎◌, inl, inr}
use mathlib.Core.Bool.{Bool, true, false, cond, ◌&&◌}
use mathlib.Core.List.{List}
use mathlib.Core.Option.{none, some}
use Prim.Native.Nat.{ℕ, ◌+◌, ◌-◌, ◌*◌, ◌/◌, ◌%◌, ◌≤◌, ◌<◌}
use native.Mathlib.Nat.{div-lt_iff_lt-mul, div-add-mod', mul-add-div_right, mul-add-mod_self_right, mod-eq_of_lt, div-eq_of_lt, mul-le-mul_right, suc-mul, add-zero, add-sub_cancel_left}
use native.Mathlib.Omega.{arith}
use lib.Dec.{ltb, eqb}
use borrow.Author.Tests.{ltb-true, eqb-true, lt-ltb, eq-eqb, ne_eqb}
use Rattle.layout.specs.Layout.{Valid}
use Rattle.datatype.specs.declared.Word.{Word}
use Rattle.datatype.specs.Datatype.{Leaf, layout_of, leaf_size, Datatype, Members, size, elements, same}
use Rattle.datatype.specs.Datatype.Leaf.{atomic, enumeration, real}
use Rattle.datatype.specs.Datatype.Datatype.{leaf, compound, array}
use Rattle.datatype.specs.Datatype.Members.{empty, member}
use Rattle.datatype.specs.Leaves.{within, leaf_at, leaf_in}
use Rattle.datatype.specs.Paths.{Lookup, on_found, member_named}
use Rattle.datatype.specs.Paths.Lookup.{missing, found}
use Rattle.datatype.specs.Matches.{Match, further, match_leaf, match_at, match_in}
use Rattle.datatype.specs.Matches.Match.{unmatched, matched}
use Rattle.datatype.specs.WellFormed.{WellFormedLeaf, Apart, ArraySize, WellFormed, WellFormedIn}
use Rattle.datatype.proofs.Tests.{nothing, same→eq, same_refl, within→, →within, not_within, factor_pos}

-- Leaf x of the first datatype, at byte a, and leaf y of the second, at byte b, are "on the same way: the same names, and in arrays the same row-major place".
pub data Way : Datatype → Datatype → ℕ → ℕ → Leaf → Leaf → Type 0 where
  here : {x y : Leaf} → Way (leaf x) (leaf y) 0 0 x y
  inside : {z w p o a b : ℕ} {ss ms : Members} {S T : Datatype} {x y : Leaf} (n : List ℕ)
      → member_named n ss ≡ found p S → member_named n ms ≡ found o T → Way S T a b x y → Way (compound z ss) (compound w ms) (p + a) (o + b) x y
  element : {z w a b : ℕ} {es ds : List ℕ} {S T : Datatype} {x y : Leaf} (k : ℕ)
      → es ≡ ds → k < elements ds → Way S T a b x y → Way (array z es S) (array w ds T) (k * size S + a) (k * size T + b) x y

pub flip : {S D : Datatype} {a b : ℕ} {x y : Leaf} → Way S D a b x y → Way D S b a y x
flip here = here
flip (inside n p q w) = inside n q p (flip w)
flip (element {es = es} {ds = ds} k e h w) = element {es = ds} {ds = es} k (sym e) (rw e h) (flip w)

pub no_match : {A : Type 0} {a : ℕ} {x y : Leaf} → unmatched ≡ matched a x y → A
no_match e = let z : ◌≡◌ {A = ℕ} 0 1 = cc in absurd (omega arith)

pub not_found : {A : Type 0} {o : ℕ} {T : Datatype} → missing ≡ found o T → A
not_found e = let z : ◌≡◌ {A = ℕ} 0 1 = cc in absurd (omega arith)

-- ---- members by name

-- a member found behind another is found, for the names differ
pub found_later : (n x : List ℕ) (o p : ℕ) (T U : Datatype) (word : Word) (ms : Members) → member_named x ms ≡ missing → member_named n ms ≡ found p U
    → member_named n (member x o T word ms) ≡ found p U
unfolding member_named
found_later n x o p T U word ms once e = go (same n x) refl
  where
    go : (t : Bool) → same n x ≡ t → cond t (found o T) (member_named n ms) ≡ found p U
    go true q = not_found (sym once ∙ ap (λ (k : List ℕ). member_named k ms) (sym (same→eq n x q)) ∙ e)
    go false q = e

pub found_first : (x : List ℕ) (o : ℕ) (T : Datatype) (word : Word) (ms : Members) → member_named x (member x o T word ms) ≡ found o T
unfolding member_named
found_first x o T word ms = rw (same_refl x)

-- what is found by a name is the first member, or is found behind it
pub found_cases : (n x : List ℕ) (o p : ℕ) (T U : Datatype) (word : Word) (ms : Members) → member_named n (member x o T word ms) ≡ found p U
    → ((n ≡ x) × (found o T ≡ found p U)) ⊎ (member_named n ms ≡ found p U)
unfolding member_named
found_cases n x o p T U word ms e = go (same n x) refl e
  where
    go : (t : Bool) → same n x ≡ t → cond t (found o T) (member_named n ms) ≡ found p U → ((n ≡ x) × (found o T ≡ found p U)) ⊎ (member_named n ms ≡ found p U)
    go true q f = inl (same→eq n x q, f)
    go false q f = inr f

-- the parts of a member that is found
same_at : {o p : ℕ} {T U : Datatype} → found o T ≡ found p U → o ≡ p
same_at e = cc

pub same_type : {o p : ℕ} {T U : Datatype} → found o T ≡ found p U → T ≡ U
same_type e = cc

apart_found : (o w : ℕ) (ms : Members) (n : List ℕ) {p : ℕ} {U : Datatype} → Apart o w ms → member_named n ms ≡ found p U → (o + w ≤ p) ⊎ (p + size U ≤ o)
unfolding member_named
apart_found o w empty n h e = not_found e
apart_found o w (member y q X word ms) n {p} {U} h e = go (apart_found o w ms n h.1) (found_cases n y q p X U word ms e)
  where
    go : (member_named n ms ≡ found p U → (o + w ≤ p) ⊎ (p + size U ≤ o)) → ((n ≡ y) × (found q X ≡ found p U)) ⊎ (member_named n ms ≡ found p U)
        → (o + w ≤ p) ⊎ (p + size U ≤ o)
    go later (inl f) = subst₂ (λ (s : ℕ) (Y : Datatype). (o + w ≤ s) ⊎ (s + size Y ≤ o)) (same_at f.1) (same_type f.1) h.0
    go later (inr f) = later f

-- a member that is found lies inside, and its type is formed
pub formed_found : (z : ℕ) (ms : Members) (n : List ℕ) {o : ℕ} {T : Datatype} → WellFormedIn z ms → member_named n ms ≡ found o T
    → (o + size T ≤ z) × WellFormed T
unfolding member_named
formed_found z empty n h e = not_found e
formed_found z (member y q X word ms) n {o} {T} h e = go (formed_found z ms n h.2) (found_cases n y q o X T word ms e)
  where
    go : (member_named n ms ≡ found o T → (o + size T ≤ z) × WellFormed T) → ((n ≡ y) × (found q X ≡ found o T)) ⊎ (member_named n ms ≡ found o T)
        → (o + size T ≤ z) × WellFormed T
    go later (inl f) = subst₂ (λ (s : ℕ) (Y : Datatype). (s + size Y ≤ z) × WellFormed Y) (same_at f.1) (same_type f.1) (h.0.inside, h.1)
    go later (inr f) = later f

-- ---- what a walk by bytes meets: G asks each member in turn whether it holds the byte, and F is what it asks the member then
module _ {A : Type 0} (G : Members → ℕ → A) (F : List ℕ → Datatype → ℕ → A)
    (step : (x : List ℕ) (o : ℕ) (T : Datatype) (word : Word) (ms : Members) (b : ℕ) → G (member x o T word ms) b ≡ cond (within o (size T) b) (F x T (b - o)) (G ms b)) where
  reached : (z : ℕ) (ms : Members) (n : List ℕ) {o : ℕ} {T : Datatype} → WellFormedIn z ms → member_named n ms ≡ found o T → (b : ℕ) → b < size T
      → G ms (o + b) ≡ F n T b
  unfolding member_named
  reached z empty n h e b l = not_found e
  reached z (member y q X word ms) n {o} {T} h e b l = step y q X word ms (o + b) ∙ go (reached z ms n h.2) (found_cases n y q o X T word ms e)
    where
      go : (member_named n ms ≡ found o T → (b : ℕ) → b < size T → G ms (o + b) ≡ F n T b) → ((n ≡ y) × (found q X ≡ found o T)) ⊎ (member_named n ms ≡ found o T)
          → cond (within q (size X) (o + b)) (F y X (o + b - q)) (G ms (o + b)) ≡ F n T b
      go later (inl f) = rw (same_at f.1, same_type f.1, →within o (size T) b l, add-sub_cancel_left o b, f.0)
      go later (inr f) = rw (not_within q (size X) o (size T) b (apart_found q (size X) ms n h.0.apart f) l) (later f b l)

-- ---- a way ends inside

element_end : (k n w c : ℕ) → k < n → c ≤ w → k * w + c ≤ n * w
element_end k n w c h l = omega (arith, suc-mul k w, mul-le-mul_right w h)

pub way_range : {S D : Datatype} {a b : ℕ} {x y : Leaf} → Way S D a b x y → WellFormed D → b + leaf_size y ≤ size D
way_range here f = omega arith
way_range (inside {w = w} {o = o} {ms = ms} {T = T} n p q t) f =
    let in-there : (o + size T ≤ w) × WellFormed T = formed_found w ms n f.1 q in
    omega (arith, way_range t in-there.1, in-there.0)
way_range (element {b = b} {ds = ds} {T = T} {y = y} k e h t) f =
    rw f.0.product (omega (arith, element_end k (elements ds) (size T) (b + leaf_size y) h (way_range t f.1)))

-- a leaf has bytes
pub valid : (y : Leaf) → WellFormedLeaf y → Valid (layout_of y)
valid (atomic l) f = f
valid (enumeration l ss) f = f.base
valid (real l) f =
    subst Valid (sym f)
    (record {
      some_bytes = omega arith;
      sized = omega arith;
      some = omega arith;
      most = omega arith;
      inside = omega arith;
      sign = refl;
    })

pub leaf_pos : (y : Leaf) → WellFormedLeaf y → 1 ≤ leaf_size y
leaf_pos y f = (valid y f).some_bytes

pub way_formed : {S D : Datatype} {a b : ℕ} {x y : Leaf} → Way S D a b x y → WellFormed D → WellFormed (leaf y)
way_formed here f = f
way_formed (inside {w = w} {ms = ms} n p q t) f = way_formed t (formed_found w ms n f.1 q).1
way_formed (element k e h t) f = way_formed t f.1

pub way_starts : {S D : Datatype} {a b : ℕ} {x y : Leaf} → Way S D a b x y → WellFormed D → b < size D
way_starts {y = y} t f = omega (arith, way_range t f, leaf_pos y (way_formed t f))

-- ---- from a match to its way

further_back : (p : ℕ) (m : Match) {a : ℕ} {x y : Leaf} → further p m ≡ matched a x y → (c : ℕ) × (m ≡ matched c x y) × (p + c ≡ a)
further_back p unmatched e = no_match e
further_back p (matched c u v) {a} {x} {y} e =
    let k : p + c ≡ a = cc in
    let i : u ≡ x = cc in
    let j : v ≡ y = cc in
    (c, rw (i, j), k)

placed : {S D : Datatype} {a b c d : ℕ} {x y : Leaf} → a ≡ c → b ≡ d → Way S D a b x y → Way S D c d x y
placed {S} {D} {x = x} {y = y} e f t = subst₂ (λ (i j : ℕ). Way S D i j x y) e f t

pub later : {ss ms : Members} {z w a b : ℕ} {x y : Leaf} {word : Word} (n : List ℕ) (o : ℕ) (T : Datatype) → member_named n ms ≡ missing
    → Way (compound z ss) (compound w ms) a b x y → Way (compound z ss) (compound w (member n o T word ms)) a b x y
later {ms = ms} {word = word} n o T once (inside {o = q} {T = X} k e f t) = inside k e (found_later k n o q T X word ms once f) t

one_way : (S : Datatype) (v : Leaf) {a b : ℕ} {x y : Leaf} → match_at S (leaf v) b ≡ matched a x y → Way S (leaf v) a b x y
unfolding match_at
one_way S v {a} {b} {x} {y} e = go (eqb b 0) refl e
  where
    at : (U : Datatype) → b ≡ 0 → match_leaf U v ≡ matched a x y → Way U (leaf v) a b x y
    at (leaf u) q g =
        let i : u ≡ x = cc in
        let j : v ≡ y = cc in
        let k : 0 ≡ a = cc in
        rw (← i, ← j, ← k, q) here
    at (compound z ss) q g = no_match g
    at (array z es U) q g = no_match g

    go : (t : Bool) → eqb b 0 ≡ t → cond t (match_leaf S v) unmatched ≡ matched a x y → Way S (leaf v) a b x y
    go true q g = at S (eqb-true b 0 q) g
    go false q g = no_match g

member_way : (n : List ℕ) (o : ℕ) (T : Datatype) (ms ss : Members) (z w : ℕ) {a b : ℕ} {x y : Leaf} {word : Word} → member_named n ms ≡ missing
    → ((S : Datatype) (c d : ℕ) → match_at S T d ≡ matched c x y → Way S T c d x y)
    → (match_in ss ms b ≡ matched a x y → Way (compound z ss) (compound w ms) a b x y)
    → match_in ss (member n o T word ms) b ≡ matched a x y → Way (compound z ss) (compound w (member n o T word ms)) a b x y
unfolding match_at
member_way n o T ms ss z w {a} {b} {x} {y} {word} once down next e = go (within o (size T) b) refl e
  where
    held : (h : Lookup) → member_named n ss ≡ h → o ≤ b → on_found (λ p S. further p (match_at S T (b - o))) unmatched h ≡ matched a x y
        → Way (compound z ss) (compound w (member n o T word ms)) a b x y
    held missing r l g = no_match g
    held (found p S) r l g =
        let m : (c : ℕ) × (match_at S T (b - o) ≡ matched c x y) × (p + c ≡ a) = further_back p (match_at S T (b - o)) g in
        placed m.2 (omega arith) (inside n r (found_first n o T word ms) (down S m.0 (b - o) m.1))

    go : (t : Bool) → within o (size T) b ≡ t
        → cond t (on_found (λ p S. further p (match_at S T (b - o))) unmatched (member_named n ss)) (match_in ss ms b) ≡ matched a x y
        → Way (compound z ss) (compound w (member n o T word ms)) a b x y
    go true q g = held (member_named n ss) refl (within→ o (size T) b q).0 g
    go false q g = later n o T once (next g)

-- a byte of an array lies in one of its elements
element_of : (w b : ℕ) (ds : List ℕ) (T : Datatype) → ArraySize w ds (size T) → ltb b w ≡ true → b / size T < elements ds
element_of w b ds T z e =
    let l : b < elements ds * size T = subst (λ (k : ℕ). b < k) z.product (ltb-true b w e) in
    (div-lt_iff_lt-mul (factor_pos b (elements ds) (size T) l)).1 l

array_way : (T S : Datatype) (z w : ℕ) (es ds : List ℕ) {a b : ℕ} {x y : Leaf} → ArraySize w ds (size T)
    → ((c d : ℕ) → match_at S T d ≡ matched c x y → Way S T c d x y)
    → match_at (array z es S) (array w ds T) b ≡ matched a x y → Way (array z es S) (array w ds T) a b x y
unfolding match_at
array_way T S z w es ds {a} {b} {x} {y} sized down e = go (same es ds) (ltb b w) refl refl e
  where
    go : (s t : Bool) → same es ds ≡ s → ltb b w ≡ t
        → cond (s && t) (further (b / size T * size S) (match_at S T (b % size T))) unmatched ≡ matched a x y → Way (array z es S) (array w ds T) a b x y
    go true true p q g =
        let r : (c : ℕ) × (match_at S T (b % size T) ≡ matched c x y) × (b / size T * size S + c ≡ a) =
        further_back (b / size T * size S) (match_at S T (b % size T)) g in
        placed r.2 (div-add-mod' b (size T))
        (element (b / size T) (same→eq es ds p) (element_of w b ds T sized q) (down r.0 (b % size T) r.1))
    go true false p q g = no_match g
    go false t p q g = no_match g

mutual
  unfolding match_at

  pub match_way : (D S : Datatype) {a b : ℕ} {x y : Leaf} → WellFormed D → match_at S D b ≡ matched a x y → Way S D a b x y
  match_way (leaf v) S f e = one_way S v e
  match_way (compound w ms) (leaf u) f e = no_match e
  match_way (compound w ms) (compound z ss) f e = members_way ms ss z w f.1 e
  match_way (compound w ms) (array z es S) f e = no_match e
  match_way (array w ds T) (leaf u) f e = no_match e
  match_way (array w ds T) (compound z ss) f e = no_match e
  match_way (array w ds T) (array z es S) f e = array_way T S z w es ds f.0 (λ c d g. match_way T S {a = c} {b = d} f.1 g) e

  members_way : (ms ss : Members) (z w : ℕ) {a b : ℕ} {x y : Leaf} → WellFormedIn w ms → match_in ss ms b ≡ matched a x y
      → Way (compound z ss) (compound w ms) a b x y
  members_way empty ss z w f e = no_match e
  members_way (member n o T word ms) ss z w f e =
      member_way n o T ms ss z w f.0.name_once (λ S c d g. match_way T S {a = c} {b = d} f.1 g) (λ g. members_way ms ss z w f.2 g) e

-- ---- from a way to its match

-- a byte of an element is a byte of its array
element_inside : (w k b : ℕ) (ds : List ℕ) (T : Datatype) → ArraySize w ds (size T) → k < elements ds → b < size T → ltb (k * size T + b) w ≡ true
element_inside w k b ds T z h l = rw z.product (lt-ltb (k * size T + b) (elements ds * size T) (omega (arith, suc-mul k (size T), mul-le-mul_right (size T) h)))

pub way_match : {S D : Datatype} {a b : ℕ} {x y : Leaf} → Way S D a b x y → WellFormed S → WellFormed D → match_at S D b ≡ matched a x y
unfolding match_at
way_match here f g = refl
way_match (inside {z = z} {w = w} {p = p} {b = b} {ss = ss} {ms = ms} {S = S} {T = T} n e q t) f g =
    reached (match_in ss) (λ k X d. on_found (λ i U. further i (match_at U X d)) unmatched (member_named k ss)) (λ k o X v r d. refl) w ms n g.1 q b
    (way_starts t (formed_found w ms n g.1 q).1)
    ∙ rw e (ap (further p) (way_match t (formed_found z ss n f.1 e).1 (formed_found w ms n g.1 q).1))
way_match (element {w = w} {a = a} {b = b} {es = es} {ds = ds} {S = S} {T = T} k e h t) f g =
    let l : b < size T = way_starts t g.1 in
    rw (
      e,
      same_refl ds,
      element_inside w k b ds T g.0 h l,
      mul-add-div_right {m = size T} (omega arith) k b,
      mul-add-mod_self_right k (size T) b,
      div-eq_of_lt l,
      mod-eq_of_lt l,
      add-zero k,
      way_match t f.1 g.1,
    )

-- ---- leaves

pub way_leaf : {S D : Datatype} {a b : ℕ} {x y : Leaf} → Way S D a b x y → WellFormed D → leaf_at D b ≡ some y
unfolding leaf_at
way_leaf here g = refl
way_leaf (inside {w = w} {b = b} {ms = ms} n e q t) g =
    reached leaf_in (λ k X d. leaf_at X d) (λ k o X v r d. refl) w ms n g.1 q b (way_starts t (formed_found w ms n g.1 q).1)
    ∙ way_leaf t (formed_found w ms n g.1 q).1
way_leaf (element {w = w} {b = b} {ds = ds} {T = T} k e h t) g =
    let l : b < size T = way_starts t g.1 in
    rw (element_inside w k b ds T g.0 h l, mul-add-mod_self_right k (size T) b, mod-eq_of_lt l) (way_leaf t g.1)

-- no leaf starts inside another
pub way_alone : {S D : Datatype} {a b : ℕ} {x y : Leaf} → Way S D a b x y → WellFormed D → (c : ℕ) → b < c → c < b + leaf_size y → leaf_at D c ≡ none
unfolding leaf_at
way_alone here g c l r = rw (ne_eqb c 0 (λ e. omega arith))
way_alone (inside {w = w} {o = o} {b = b} {ms = ms} {T = T} {y = y} n e q t) g c l r =
    let d : ℕ = c - o in
    let back : o + d ≡ c = omega arith in
    let f : WellFormed T = (formed_found w ms n g.1 q).1 in
    subst (λ (i : ℕ). leaf_in ms i ≡ none) back
    (reached leaf_in (λ k X i. leaf_at X i) (λ k p X v s i. refl) w ms n g.1 q d (omega (arith, way_range t f))
    ∙ way_alone t f d (omega arith) (omega arith))
way_alone (element {w = w} {b = b} {ds = ds} {T = T} {y = y} k e h t) g c l r =
    let d : ℕ = c - k * size T in
    let back : k * size T + d ≡ c = omega arith in
    let f : WellFormed T = g.1 in
    let s : d < size T = omega (arith, way_range t f) in
    subst (λ (i : ℕ). cond (ltb i w) (leaf_at T (i % size T)) none ≡ none) back
    (rw (element_inside w k d ds T g.0 h s, mul-add-mod_self_right k (size T) d, mod-eq_of_lt s)
    (way_alone t f d (omega arith) (omega arith)))

member_leaf : (n : List ℕ) (o : ℕ) (T : Datatype) (ms : Members) (w : ℕ) {b : ℕ} {y : Leaf} {word : Word} → member_named n ms ≡ missing
    → ((d : ℕ) → leaf_at T d ≡ some y → Way T T d d y y)
    → (leaf_in ms b ≡ some y → Way (compound w ms) (compound w ms) b b y y)
    → leaf_in (member n o T word ms) b ≡ some y → Way (compound w (member n o T word ms)) (compound w (member n o T word ms)) b b y y
unfolding leaf_at
member_leaf n o T ms w {b} {y} {word} once down next e = go (within o (size T) b) refl e
  where
    go : (t : Bool) → within o (size T) b ≡ t → cond t (leaf_at T (b - o)) (leaf_in ms b) ≡ some y
        → Way (compound w (member n o T word ms)) (compound w (member n o T word ms)) b b y y
    go true q g =
        let l : o ≤ b = (within→ o (size T) b q).0 in
        let back : o + (b - o) ≡ b = omega arith in
        placed back back (inside n (found_first n o T word ms) (found_first n o T word ms) (down (b - o) g))
    go false q g = later n o T once (flip (later n o T once (next g)))

array_leaf : (T : Datatype) (w : ℕ) (ds : List ℕ) {b : ℕ} {y : Leaf} → ArraySize w ds (size T) → ((d : ℕ) → leaf_at T d ≡ some y → Way T T d d y y)
    → leaf_at (array w ds T) b ≡ some y → Way (array w ds T) (array w ds T) b b y y
unfolding leaf_at
array_leaf T w ds {b} {y} sized down e = go (ltb b w) refl e
  where
    go : (t : Bool) → ltb b w ≡ t → cond t (leaf_at T (b % size T)) none ≡ some y → Way (array w ds T) (array w ds T) b b y y
    go true q g =
        placed (div-add-mod' b (size T)) (div-add-mod' b (size T)) (element (b / size T) refl (element_of w b ds T sized q) (down (b % size T) g))
    go false q g = nothing g

one_leaf : (v : Leaf) {b : ℕ} {y : Leaf} → leaf_at (leaf v) b ≡ some y → Way (leaf v) (leaf v) b b y y
unfolding leaf_at
one_leaf v {b} {y} e = go (eqb b 0) refl e
  where
    go : (t : Bool) → eqb b 0 ≡ t → cond t (some v) none ≡ some y → Way (leaf v) (leaf v) b b y y
    go true q g =
        let i : v ≡ y = cc in
        rw (eqb-true b 0 q, ← i) here
    go false q g = nothing g

mutual
  unfolding leaf_at

  pub leaf_way : (D : Datatype) {b : ℕ} {y : Leaf} → WellFormed D → leaf_at D b ≡ some y → Way D D b b y y
  leaf_way (leaf v) f e = one_leaf v e
  leaf_way (compound w ms) f e = leaves_way ms w f.1 e
  leaf_way (array w ds T) f e = array_leaf T w ds f.0 (λ d g. leaf_way T {b = d} f.1 g) e

  leaves_way : (ms : Members) (w : ℕ) {b : ℕ} {y : Leaf} → WellFormedIn w ms → leaf_in ms b ≡ some y → Way (compound w ms) (compound w ms) b b y y
  leaves_way empty w f e = nothing e
  leaves_way (member n o T word ms) w f e = member_leaf n o T ms w f.0.name_once (λ d g. leaf_way T {b = d} f.1 g) (λ g. leaves_way ms w f.2 g) e
