-- One record: what stands in it after the conversion, and the way back. Assumes nothing.
use mathlib.Core.Path.{◌≡◌, refl, sym, ap, ◌∙◌, subst, fun_ext}
use mathlib.Core.Logic.{◌⊎◌, inl, inr, ⊎_elim}
use mathlib.Core.Bool.{true}
use mathlib.Core.List.{List}
use mathlib.Core.Option.{Option, none, some}
use Prim.Native.Nat.{ℕ, zero, suc, ◌+◌, ◌≤◌, ◌<◌}
use native.Mathlib.Nat.{le_refl, eq-or-lt_of_le, le_of_suc-le-suc, not-suc-le-zero}
use native.Mathlib.Omega.{arith}
use lib.IntN.{ℤ}
use lib.ListN.{length, take, drop}
use Rattle.bits.specs.Container.{container, contained, field}
use Rattle.bits.proofs.Digits.{contained_length}
use Rattle.number.specs.Place.{filled, place, stored}
use Rattle.number.proofs.RoundTrip.{taken_back, raw_back, stored_length, part_apart}
use Rattle.datatype.specs.Datatype.{Leaf, layout_of, leaf_size, Datatype, size}
use Rattle.datatype.specs.Symbols.{on_some}
use Rattle.datatype.specs.Paths.{has_path}
use Rattle.datatype.specs.Matches.{Match, on_match, match_at}
use Rattle.datatype.specs.Matches.Match.{unmatched, matched}
use Rattle.datatype.specs.WellFormed.{WellFormed}
use Rattle.datatype.proofs.Ways.{valid, leaf_pos}
use Rattle.datatype.proofs.Matches.{in_range, match_back, match_leaf_lem, match_formed, match_path, leaves_apart}
use Rattle.records.specs.Leaf.{number_in, converted}
use Rattle.records.specs.Arrival.{stands_for}
use Rattle.records.specs.Record.{Reading, reading, with_leaf, with_leaves_below, converted_record, kind_at, raises, raised_below}
use Rattle.records.proofs.OneLeaf.{converted_lt, InRange, read_in_range, Returns, leaf_back}

-- ---- the fold of writes

module _ (S D : Datatype) (fs : WellFormed S) (fd : WellFormed D) (f : Reading) where
  starts : (b a : ℕ) (x y : Leaf) → match_at S D b ≡ matched a x y → b < size D
  starts b a x y m = omega (arith, (in_range S D fs fd b a x y m).0, leaf_pos y (match_formed S D fs fd b a x y m).1)

  length_with_leaf : (b : ℕ) (r : List ℕ) → length r ≡ size D → length (with_leaf S D f b r) ≡ size D
  unfolding with_leaf
  length_with_leaf b r h = at (match_at S D b) refl
    where
      at : (m : Match) → match_at S D b ≡ m → length (on_match (λ a x y. on_some (λ z. stored (layout_of y) b (converted x y z).raw r) r (f b)) r m) ≡ size D
      at unmatched e = h
      at (matched a x y) e = of (f b)
        where
          of : (o : Option ℤ) → length (on_some (λ z. stored (layout_of y) b (converted x y z).raw r) r o) ≡ size D
          of none = h
          of (some z) = stored_length (layout_of y) b (converted x y z).raw r (omega (arith, (in_range S D fs fd b a x y e).0)) ∙ h

  pub length_below : (k : ℕ) (r : List ℕ) → length r ≡ size D → length (with_leaves_below S D f k r) ≡ size D
  unfolding with_leaves_below
  length_below zero r h = h
  length_below (suc k) r h = length_with_leaf k (with_leaves_below S D f k r) (length_below k r h)

  -- a write at byte k leaves the w bytes from j on as they are, where the leaf at k is apart from them
  leaf_apart : (k j w : ℕ) (r : List ℕ) → length r ≡ size D → ((a : ℕ) (u v : Leaf) → match_at S D k ≡ matched a u v → (j + w ≤ k) ⊎ (k + leaf_size v ≤ j))
      → take w (drop j (with_leaf S D f k r)) ≡ take w (drop j r)
  unfolding with_leaf
  leaf_apart k j w r h apart = at (match_at S D k) refl
    where
      at : (m : Match) → match_at S D k ≡ m
          → take w (drop j (on_match (λ a u v. on_some (λ z. stored (layout_of v) k (converted u v z).raw r) r (f k)) r m)) ≡ take w (drop j r)
      at unmatched q = refl
      at (matched a u v) q = of (f k)
        where
          of : (o : Option ℤ) → take w (drop j (on_some (λ z. stored (layout_of v) k (converted u v z).raw r) r o)) ≡ take w (drop j r)
          of none = refl
          of (some z) = part_apart (layout_of v) k (converted u v z).raw r j w (omega (arith, (in_range S D fs fd k a u v q).0)) (apart a u v q)

  -- "Every destination bit not fixed by a matched leaf is the background's": bytes that no matched leaf covers
  pub converted_keeps : (j w k : ℕ) (r : List ℕ) → length r ≡ size D
      → ((b a : ℕ) (x y : Leaf) → match_at S D b ≡ matched a x y → (j + w ≤ b) ⊎ (b + leaf_size y ≤ j))
      → take w (drop j (with_leaves_below S D f k r)) ≡ take w (drop j r)
  unfolding with_leaves_below
  converted_keeps j w zero r h apart = refl
  converted_keeps j w (suc k) r h apart = leaf_apart k j w (with_leaves_below S D f k r) (length_below k r h) (apart k) ∙ converted_keeps j w k r h apart

  module _ (b a : ℕ) (x y : Leaf) (z : ℤ) (m : match_at S D b ≡ matched a x y) (e : f b ≡ some z) where
    ends : (r : List ℕ) → length r ≡ size D → b + leaf_size y ≤ length r
    ends r h = omega (arith, (in_range S D fs fd b a x y m).0)

    -- until its write the leaf's bytes are the background's
    untouched : (k : ℕ) (r : List ℕ) → length r ≡ size D → k ≤ b → place (layout_of y) b (with_leaves_below S D f k r) ≡ place (layout_of y) b r
    unfolding with_leaves_below
    untouched zero r h l = refl
    untouched (suc k) r h l =
        leaf_apart k b (leaf_size y) (with_leaves_below S D f k r) (length_below k r h)
        (λ c u v g. inr (leaves_apart D fd k b v y (match_leaf_lem S D fs fd k c u v g) (match_leaf_lem S D fs fd b a x y m) l))
        ∙ untouched k r h (omega arith)

    -- what a write leaves in the leaf's bytes turns on those bytes alone
    write_alone : (r s : List ℕ) → length r ≡ size D → length s ≡ size D → place (layout_of y) b r ≡ place (layout_of y) b s
        → place (layout_of y) b (stored (layout_of y) b (converted x y z).raw r) ≡ place (layout_of y) b (stored (layout_of y) b (converted x y z).raw s)
    write_alone r s h h' q = back r h ∙ ap (λ (p : List ℕ). contained (layout_of y).order (leaf_size y) (filled (layout_of y) (container (layout_of y).order p) (converted x y z).raw)) q ∙ sym (back s h')
      where
        back : (t : List ℕ) → length t ≡ size D
            → place (layout_of y) b (stored (layout_of y) b (converted x y z).raw t)
            ≡ contained (layout_of y).order (leaf_size y) (filled (layout_of y) (container (layout_of y).order (place (layout_of y) b t)) (converted x y z).raw)
        back t k = taken_back t b _ (leaf_size y) (contained_length (layout_of y).order (leaf_size y) _) (omega (arith, ends t k))

    written : (k : ℕ) (r : List ℕ) → length r ≡ size D → b < k
        → place (layout_of y) b (with_leaves_below S D f k r) ≡ place (layout_of y) b (stored (layout_of y) b (converted x y z).raw r)
    unfolding with_leaves_below with_leaf
    written zero r h l = absurd (not-suc-le-zero l)
    written (suc k) r h l =
        ⊎_elim
        (λ (q : b ≡ k). rw (← q, m, e) (write_alone (with_leaves_below S D f b r) r (length_below b r h) h (untouched b r h (le_refl b))))
        (λ (q : b < k).
        leaf_apart k b (leaf_size y) (with_leaves_below S D f k r) (length_below k r h)
        (λ c u v g. inl (leaves_apart D fd b k y v (match_leaf_lem S D fs fd b a x y m) (match_leaf_lem S D fs fd k c u v g) q))
        ∙ written k r h q)
        (eq-or-lt_of_le (le_of_suc-le-suc l))

    -- after the conversion the leaf's bytes are as if it alone had been written over the background
    pub converted_place : (bg : List ℕ) → length bg ≡ size D
        → place (layout_of y) b (converted_record S D f bg) ≡ place (layout_of y) b (stored (layout_of y) b (converted x y z).raw bg)
    converted_place bg h = written (size D) bg h (starts b a x y m)

    -- so the leaf holds the number that z became
    pub read_converted : InRange x z → (bg : List ℕ) → length bg ≡ size D → number_in y b (converted_record S D f bg) ≡ stands_for y (converted x y z).raw
    read_converted i bg h =
        let formed = match_formed S D fs fd b a x y m in
        let g = formed.1 in
        ap (λ (p : List ℕ). stands_for y (field (layout_of y).offset.0 (layout_of y).precision (container (layout_of y).order p))) (converted_place bg h)
        ∙ ap (stands_for y) (raw_back (layout_of y) b (converted x y z).raw bg (valid y g) (ends bg h) (converted_lt x y z formed.0 g i))

-- ---- exceptions

raises_zero : (k : ℕ) → raises k ≡ 0 → k ≡ 0
raises_zero zero e = refl
raises_zero (suc k) e = absurd (omega (arith, e))

-- none is raised below k exactly where no leaf below k raises one
pub none_raised : (S D : Datatype) (f : Reading) (k : ℕ) → raised_below S D f k ≡ 0 → (b : ℕ) → b < k → kind_at S D f b ≡ 0
unfolding raised_below
none_raised S D f zero e b l = absurd (not-suc-le-zero l)
none_raised S D f (suc k) e b l =
    ⊎_elim (λ (q : b ≡ k). rw q (raises_zero (kind_at S D f k) (omega (arith, e)))) (λ (q : b < k). none_raised S D f k (omega (arith, e)) b q)
    (eq-or-lt_of_le (le_of_suc-le-suc l))

pub all_quiet : (S D : Datatype) (f : Reading) (k : ℕ) → ((b : ℕ) → b < k → kind_at S D f b ≡ 0) → raised_below S D f k ≡ 0
unfolding raised_below
all_quiet S D f zero h = refl
all_quiet S D f (suc k) h = rw (all_quiet S D f k (λ b l. h b (omega arith)), h k (le_refl (suc k)))

-- ---- the way back

module _ (S D : Datatype) where
  pub reading_at : (r : List ℕ) (b a : ℕ) (x y : Leaf) → match_at S D b ≡ matched a x y → reading S D r b ≡ some (number_in x a r)
  unfolding reading
  reading_at r b a x y m = rw m

  kind_at_lem : (f : Reading) (b a : ℕ) (x y : Leaf) (z : ℤ) → match_at S D b ≡ matched a x y → f b ≡ some z → kind_at S D f b ≡ (converted x y z).kind
  unfolding kind_at
  kind_at_lem f b a x y z m e = rw (m, e)

  -- leaf by leaf: an unmatched one raises nothing, and is read as nothing
  kind_by_lem : (f : Reading) (b : ℕ) → ((a : ℕ) (x y : Leaf) → match_at S D b ≡ matched a x y → kind_at S D f b ≡ 0) → kind_at S D f b ≡ 0
  unfolding kind_at
  kind_by_lem f b h = at (match_at S D b) refl
    where
      at : (m : Match) → match_at S D b ≡ m → kind_at S D f b ≡ 0
      at unmatched e = rw e
      at (matched a x y) e = h a x y e

  pub reading_by : (r s : List ℕ) → ((b a : ℕ) (x y : Leaf) → match_at S D b ≡ matched a x y → number_in x a r ≡ number_in x a s) → reading S D r ≡ reading S D s
  unfolding reading
  reading_by r s h = fun_ext (λ b. at b (match_at S D b) refl)
    where
      at : (b : ℕ) (m : Match) → match_at S D b ≡ m → reading S D r b ≡ reading S D s b
      at b unmatched e = rw e
      at b (matched a x y) e = rw e (ap (λ (z : ℤ). some z) (h b a x y e))

module _ (S D : Datatype) (fs : WellFormed S) (fd : WellFormed D) (path : has_path S D ≡ true) where
  -- a source record that raised nothing, and what was made of it
  module _ (r bg : List ℕ) (h : length bg ≡ size D) (quiet : raised_below S D (reading S D r) (size D) ≡ 0) where
    leaf_returns : (b a : ℕ) (x y : Leaf) → match_at S D b ≡ matched a x y → Returns x y (number_in x a r) (number_in y b (converted_record S D (reading S D r) bg))
    leaf_returns b a x y m =
        let g = match_formed S D fs fd b a x y m in
        let e : reading S D r b ≡ some (number_in x a r) = reading_at S D r b a x y m in
        let k : (converted x y (number_in x a r)).kind ≡ 0 =
        sym (kind_at_lem S D (reading S D r) b a x y (number_in x a r) m e)
        ∙ none_raised S D (reading S D r) (size D) quiet b (starts S D fs fd (reading S D r) b a x y m) in
        subst (Returns x y (number_in x a r)) (sym (read_converted S D fs fd (reading S D r) b a x y (number_in x a r) m e (read_in_range x a r g.0) bg h))
        (leaf_back x y (number_in x a r) g.0 g.1 (match_path S D fs fd path b a x y m) (read_in_range x a r g.0) k)

    -- going back raises nothing
    pub back_quiet : (out : List ℕ) → out ≡ converted_record S D (reading S D r) bg → raised_below D S (reading D S out) (size S) ≡ 0
    back_quiet out o =
        all_quiet D S (reading D S out) (size S)
        (λ a l. kind_by_lem D S (reading D S out) a
        (λ b y x m. kind_at_lem D S (reading D S out) a b y x (number_in y b out) m (reading_at D S out a b y x m)
        ∙ rw o (leaf_returns b a x y (match_back D S fd fs a b y x m)).quiet))

    -- and brings every matched number back
    pub back_same : (out bg' : List ℕ) → out ≡ converted_record S D (reading S D r) bg → length bg' ≡ size S
        → (b a : ℕ) (x y : Leaf) → match_at S D b ≡ matched a x y → number_in x a (converted_record D S (reading D S out) bg') ≡ number_in x a r
    back_same out bg' o h' b a x y m =
        let n : match_at D S a ≡ matched b y x = match_back S D fs fd b a x y m in
        read_converted D S fd fs (reading D S out) a b y x (number_in y b out) n (reading_at D S out a b y x n)
        (read_in_range y b out (match_formed D S fd fs a b y x n).0) bg' h'
        ∙ rw o (leaf_returns b a x y m).same

  -- two records that raised nothing and became the same bytes have the same matched numbers
  pub converted_apart : (r s bg bg' : List ℕ) → length bg ≡ size D → length bg' ≡ size D
      → raised_below S D (reading S D r) (size D) ≡ 0 → raised_below S D (reading S D s) (size D) ≡ 0
      → converted_record S D (reading S D r) bg ≡ converted_record S D (reading S D s) bg'
      → (b a : ℕ) (x y : Leaf) → match_at S D b ≡ matched a x y → number_in x a r ≡ number_in x a s
  converted_apart r s bg bg' h h' q q' e b a x y m =
      sym (leaf_returns r bg h q b a x y m).same
      ∙ ap (λ (o : List ℕ). stands_for x (converted y x (number_in y b o)).raw) e
      ∙ (leaf_returns s bg' h' q' b a x y m).same
