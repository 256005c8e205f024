-- `sameIn` is true exactly of numbers that are the same, and the list is of those that are not. Assumes nothing.
use mathlib.Core.Path.{◌≡◌, refl, sym, ap, ◌∙◌, subst}
use mathlib.Core.Logic.{◌⊎◌, inl, inr, ⊎_elim, ◌↔◌}
use mathlib.Core.Bool.{Bool, true, false, ◌&&◌, ◌||◌, beq, false≢true, true≢false}
use mathlib.Core.List.{List, []}
use mathlib.Core.Option.{Option, none, some}
use Prim.Native.Nat.{ℕ, suc, ◌*◌, ◌<◌}
use native.Mathlib.Omega.{arith}
use lib.Dec.{eqb}
use lib.IntN.{ℤ, pos, negsuc}
use lib.Pow.{pow_pos}
use borrow.Author.Tests.{eqb-true, eq-eqb}
use Rattle.reals.specs.Worth.{quanta_per_one, Worth, worth}
use Rattle.reals.specs.Worth.Worth.{not_a_number, infinite, finite}
use Rattle.reals.specs.Compare.{is_worth}
use Rattle.datatype.specs.Datatype.{Symbol, Leaf, Datatype, same}
use Rattle.datatype.specs.Datatype.Leaf.{atomic, enumeration, real}
use Rattle.datatype.specs.Symbols.{same_number, symbol_of}
use Rattle.datatype.specs.WellFormed.{WellFormed}
use Rattle.datatype.proofs.Tests.{nothing, and_true, both, same→eq, same_refl, sameNumber→eq, sameNumber_refl}
use Rattle.records.specs.Leaf.{real_bits}
use Rattle.records.specs.Matched.{matched_number}
use Rattle.differences.specs.Same.{same_named, same_in}
use Rattle.differences.specs.IsSame.{OneSymbol, OneUnnamed, IsWorth, IsSame}
use Rattle.differences.specs.Differences.{Difference}
use Rattle.differences.specs.Says.{second_number, IsDifference, OfDifferentNumbers, Means}
use Rattle.differences.proofs.Says.{says}

-- ---- whole numbers

number_same : (z w : ℤ) → same_number z w ≡ true ↔ z ≡ w
number_same z w = (sameNumber→eq z w, λ e. subst (λ (v : ℤ). same_number z v ≡ true) e (sameNumber_refl z))

-- ---- symbols

some_one : {A : Type 0} {a b : A} → some a ≡ some b → a ≡ b
some_one e = cc

named_same : (o p : Option (List ℕ)) (z w : ℤ)
    → same_named o p (same_number z w) ≡ true ↔ (((name : List ℕ) × (o ≡ some name) × (p ≡ some name)) ⊎ ((o ≡ none) × (p ≡ none) × (z ≡ w)))
named_same (some x) (some y) z w =
    (λ e. inl (x, refl, ap some (sym (same→eq x y e))), of)
  where
    of : (((name : List ℕ) × (some x ≡ some name) × (some y ≡ some name)) ⊎ ((some x ≡ none) × (some y ≡ none) × (z ≡ w))) → same x y ≡ true
    of (inl (n, p, q)) = subst (λ (v : List ℕ). same x v ≡ true) (some_one (p ∙ sym q)) (same_refl x)
    of (inr (p, q, e)) = nothing (sym p)
named_same (some x) none z w = (λ e. absurd (false≢true e), of)
  where
    of : (((name : List ℕ) × (some x ≡ some name) × (none ≡ some name)) ⊎ ((some x ≡ none) × (◌≡◌ {A = Option (List ℕ)} none none) × (z ≡ w))) → false ≡ true
    of (inl (n, p, q)) = nothing q
    of (inr (p, q, e)) = nothing (sym p)
named_same none (some y) z w = (λ e. absurd (false≢true e), of)
  where
    of : (((name : List ℕ) × (none ≡ some name) × (some y ≡ some name)) ⊎ ((◌≡◌ {A = Option (List ℕ)} none none) × (some y ≡ none) × (z ≡ w))) → false ≡ true
    of (inl (n, p, q)) = nothing p
    of (inr (p, q, e)) = nothing (sym q)
named_same none none z w = (λ e. inr (refl, refl, (number_same z w).0 e), of)
  where
    of : (((name : List ℕ) × (none ≡ some name) × (none ≡ some name)) ⊎ ((◌≡◌ {A = Option (List ℕ)} none none) × (◌≡◌ {A = Option (List ℕ)} none none) × (z ≡ w)))
        → same_number z w ≡ true
    of (inl (n, p, q)) = nothing p
    of (inr (p, q, e)) = (number_same z w).1 e

symbol_same : (ss ts : List Symbol) (z w : ℤ) → same_named (symbol_of z ss) (symbol_of w ts) (same_number z w) ≡ true ↔ (OneSymbol ss ts z w ⊎ OneUnnamed ss ts z w)
symbol_same ss ts z w = named_same (symbol_of z ss) (symbol_of w ts) z w

-- beside a leaf that has no symbols
unnamed_same : (ts : List Symbol) (z w : ℤ) → same_named (symbol_of z []) (symbol_of w ts) (same_number z w) ≡ true ↔ OneUnnamed [] ts z w
unfolding symbol_of
unnamed_same ts z w = (λ e. of ((symbol_same [] ts z w).0 e), λ u. (symbol_same [] ts z w).1 (inr u))
  where
    of : (OneSymbol [] ts z w ⊎ OneUnnamed [] ts z w) → OneUnnamed [] ts z w
    of (inl (n, p, q)) = nothing p
    of (inr u) = u

-- ---- worth

or_cases : (a b : Bool) → (a || b) ≡ true → (a ≡ true) ⊎ (b ≡ true)
or_cases true b e = inl refl
or_cases false b e = inr e

or_left : (a b : Bool) → a ≡ true → (a || b) ≡ true
or_left a b e = rw e refl

or_right : (a b : Bool) → b ≡ true → (a || b) ≡ true
or_right true b e = refl
or_right false b e = e

not_beq : (s : Bool) → beq s false ≡ true ↔ s ≡ false
not_beq true = (λ e. absurd (false≢true e), λ e. absurd (true≢false e))
not_beq false = (λ e. refl, λ e. refl)

is_beq : (s : Bool) → beq s true ≡ true ↔ s ≡ true
is_beq true = (λ e. refl, λ e. refl)
is_beq false = (λ e. absurd (false≢true e), λ e. absurd (false≢true e))

not_zero : (n d : ℕ) → 0 < d → ¬ (suc n * d ≡ 0)
not_zero n d h e = omega (arith, h, e)

pub worth_same : (v : Worth) (z : ℤ) → is_worth v z ≡ true ↔ IsWorth v z
worth_same not_a_number z = (λ e. false≢true e, λ e. absurd e)
worth_same (infinite s) z = (λ e. false≢true e, λ e. absurd e)
worth_same (finite s m) (pos n) = (to, from)
  where
    to : eqb m (n * quanta_per_one) && (eqb m 0 || beq s false) ≡ true → (m ≡ n * quanta_per_one) × ((s ≡ false) ⊎ (m ≡ 0))
    to e =
        let p = and_true (eqb m (n * quanta_per_one)) (eqb m 0 || beq s false) e in (
          eqb-true m (n * quanta_per_one) p.0,
          ⊎_elim (λ (q : eqb m 0 ≡ true). inr (eqb-true m 0 q)) (λ (q : beq s false ≡ true). inl ((not_beq s).0 q)) (or_cases (eqb m 0) (beq s false) p.1),
        )

    from : (m ≡ n * quanta_per_one) × ((s ≡ false) ⊎ (m ≡ 0)) → eqb m (n * quanta_per_one) && (eqb m 0 || beq s false) ≡ true
    from p =
        both (eqb m (n * quanta_per_one)) (eqb m 0 || beq s false) (eq-eqb m (n * quanta_per_one) p.0)
        (⊎_elim (λ (q : s ≡ false). or_right (eqb m 0) (beq s false) ((not_beq s).1 q)) (λ (q : m ≡ 0). or_left (eqb m 0) (beq s false) (eq-eqb m 0 q)) p.1)
worth_same (finite s m) (negsuc n) = (to, from)
  where
    to : eqb m (suc n * quanta_per_one) && (eqb m 0 || beq s true) ≡ true → (m ≡ suc n * quanta_per_one) × (s ≡ true)
    to e =
        let p = and_true (eqb m (suc n * quanta_per_one)) (eqb m 0 || beq s true) e in
        let q : m ≡ suc n * quanta_per_one = eqb-true m (suc n * quanta_per_one) p.0 in (
          q,
          ⊎_elim (λ (h : eqb m 0 ≡ true). absurd (not_zero n quanta_per_one (pow_pos 1074) (sym q ∙ eqb-true m 0 h))) (λ (h : beq s true ≡ true). (is_beq s).0 h)
              (or_cases (eqb m 0) (beq s true) p.1),
        )

    from : (m ≡ suc n * quanta_per_one) × (s ≡ true) → eqb m (suc n * quanta_per_one) && (eqb m 0 || beq s true) ≡ true
    from p =
        both (eqb m (suc n * quanta_per_one)) (eqb m 0 || beq s true) (eq-eqb m (suc n * quanta_per_one) p.0)
        (or_right (eqb m 0) (beq s true) ((is_beq s).1 p.1))

-- ---- leaf by leaf

-- The number z of leaf x and the number w of leaf y are found the same exactly if they are.
pub is_same : (x y : Leaf) (z w : ℤ) → same_in x y z w ≡ true ↔ IsSame x y z w
is_same (atomic k) (atomic l) z w = number_same z w
is_same (atomic k) (enumeration l ts) z w = unnamed_same ts z w
is_same (atomic k) (real l) z w = worth_same (worth (real_bits w)) z
is_same (enumeration k ss) (atomic l) z w = number_same z w
is_same (enumeration k ss) (enumeration l ts) z w = symbol_same ss ts z w
is_same (enumeration k ss) (real l) z w = worth_same (worth (real_bits w)) z
is_same (real k) (atomic l) z w = worth_same (worth (real_bits z)) w
is_same (real k) (enumeration l ts) z w = unnamed_same ts z w
is_same (real k) (real l) z w = number_same z w

-- and found different exactly if they are not
pub is_different : (x y : Leaf) (z w : ℤ) → same_in x y z w ≡ false ↔ ¬ (IsSame x y z w)
is_different x y z w = (λ e h. true≢false (sym ((is_same x y z w).1 h) ∙ e), λ n. of (same_in x y z w) (λ e. n ((is_same x y z w).0 e)))
  where
    of : (t : Bool) → ¬ (t ≡ true) → t ≡ false
    of true n = absurd (n refl)
    of false n = refl

-- ---- the list

module _ (S D : Datatype) (fs : WellFormed S) (fd : WellFormed D) (n : ℕ) (first second : List ℕ) where
  to_words : (d : Difference) → IsDifference S D n first second d → OfDifferentNumbers S D n first second d
  to_words d h =
      let m = h.leaf in
      record {
        leaf = m;
        differ = (is_different m.source m.destination (matched_number m first) (second_number m second)).0 h.differ;
        index = h.index;
        at = h.at;
        first_number = h.first_number;
        second_number_lem = h.second_number_lem;
      }

  from_words : (d : Difference) → OfDifferentNumbers S D n first second d → IsDifference S D n first second d
  from_words d h =
      let m = h.leaf in
      record {
        leaf = m;
        differ = (is_different m.source m.destination (matched_number m first) (second_number m second)).1 h.differ;
        index = h.index;
        at = h.at;
        first_number = h.first_number;
        second_number_lem = h.second_number_lem;
      }

  -- The list has the matched leaves whose numbers are not the same, and no others; it is empty exactly if all are the same.
  pub means : Means S D n first second
  means =
      let s = says S D fs fd n first second in
      record {
        exactly = λ d. (λ m. to_words d ((s.exactly d).0 m), λ h. (s.exactly d).1 (from_words d h));
        nothing = (
          λ e m. (is_same m.source m.destination (matched_number m first) (second_number m second)).0 (s.nothing.0 e m),
          λ f. s.nothing.1 (λ m. (is_same m.source m.destination (matched_number m first) (second_number m second)).1 (f m)),
        );
      }
