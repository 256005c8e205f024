-- What the list of differences says, of well-formed types. Assumes nothing.
use mathlib.Core.Path.{◌≡◌, refl, sym, ap, ◌∙◌, subst}
use mathlib.Core.Logic.{◌⊎◌, inl, inr, ⊎_elim, ◌↔◌}
use mathlib.Core.Bool.{Bool, true, false, cond, true≢false}
use mathlib.Core.List.Memᴰ
use mathlib.Core.List.{List, [], ◌∷◌, ◌++◌, Memᴰ}
use Prim.Native.Nat.{ℕ, zero, suc, ◌+◌, ◌≤◌, ◌<◌}
use native.Mathlib.Nat.{le_refl, eq-or-lt_of_le}
use native.Mathlib.Omega.{arith}
use lib.IntN.{ℤ}
use Rattle.datatype.specs.Datatype.{Leaf, Datatype, size}
use Rattle.datatype.specs.Matches.{Match, on_match, match_at}
use Rattle.datatype.specs.Matches.Match.{unmatched, matched}
use Rattle.datatype.specs.WellFormed.{WellFormed}
use Rattle.datatype.proofs.Ways.{way_starts, match_way}
use Rattle.records.specs.Leaf.{number_in}
use Rattle.records.specs.Records.{record_at}
use Rattle.records.specs.Matched.{MatchedLeaf, matched_number}
use Rattle.differences.specs.Same.{same_in}
use Rattle.differences.specs.Differences.{Difference, of_leaf, at_byte, in_record, in_records, differences}
use Rattle.differences.specs.Says.{second_number, Same, IsDifference, Before, InOrder, Says}

by_parts : (d : Difference) (i b : ℕ) (z w : ℤ) → d.index ≡ i → d.at ≡ b → d.first ≡ z → d.second ≡ w
    → d ≡ record { index = i; at = b; first = z; second = w }
by_parts d i b z w e f g h = rw (← e, ← f, ← g, ← h) refl

-- ---- lists in order

in_order_append : (xs ys : List Difference) → InOrder xs → InOrder ys → ((c d : Difference) → Memᴰ c xs → Memᴰ d ys → Before c d) → InOrder (xs ++ ys)
in_order_append [] ys a b f = b
in_order_append (x ∷ xs) ys a b f = (
  λ d m. ⊎_elim (λ (k : Memᴰ d xs). a.0 d k) (λ (k : Memᴰ d ys). f x d (Memᴰ.head refl) k) (Memᴰ.append_cases xs m),
  in_order_append xs ys a.1 b (λ c d k l. f c d (Memᴰ.tail k) l),
)

-- ---- one byte of record i, which is r in the first log and q in the second

-- d is the difference of the leaf at byte b
record AtByte (S D : Datatype) (i : ℕ) (r q : List ℕ) (b : ℕ) (d : Difference) : Type 0 where
  from : ℕ
  source : Leaf
  destination : Leaf
  match : match_at S D b ≡ matched from source destination
  differ : same_in source destination (number_in source from r) (number_in destination b q) ≡ false
  is : d ≡ record { index = i; at = b; first = number_in source from r; second = number_in destination b q }

module _ (S D : Datatype) (i : ℕ) (r q : List ℕ) where
  byte_only : (b : ℕ) (d : Difference) → Memᴰ d (at_byte S D i r q b) → AtByte S D i r q b d
  unfolding at_byte
  byte_only b d m = at (match_at S D b) refl m
    where
      at : (k : Match) → match_at S D b ≡ k → Memᴰ d (on_match (of_leaf i b r q) [] k) → AtByte S D i r q b d
      at unmatched e m = absurd (Memᴰ.not-nil m)
      at (matched a x y) e m = of (same_in x y (number_in x a r) (number_in y b q)) refl m
        where
          of : (t : Bool) → same_in x y (number_in x a r) (number_in y b q) ≡ t
              → Memᴰ d (cond t [] (record { index = i; at = b; first = number_in x a r; second = number_in y b q } ∷ [])) → AtByte S D i r q b d
          of true s m = absurd (Memᴰ.not-nil m)
          of false s m = record { from = a; source = x; destination = y; match = e; differ = s; is = Memᴰ.eq_of_singleton m }

  byte_every : (b : ℕ) (d : Difference) → AtByte S D i r q b d → Memᴰ d (at_byte S D i r q b)
  unfolding at_byte
  byte_every b d h = rw (h.match, h.differ) (Memᴰ.head h.is)

  -- at most one
  byte_order : (b : ℕ) → InOrder (at_byte S D i r q b)
  unfolding at_byte
  byte_order b = at (match_at S D b)
    where
      at : (k : Match) → InOrder (on_match (of_leaf i b r q) [] k)
      at unmatched = tt
      at (matched a x y) = of (same_in x y (number_in x a r) (number_in y b q))
        where
          of : (t : Bool) → InOrder (cond t [] (record { index = i; at = b; first = number_in x a r; second = number_in y b q } ∷ []))
          of true = tt
          of false = (λ d m. absurd (Memᴰ.not-nil m), tt)

  -- ---- the k bytes from b on

  record InBytes (b k : ℕ) (d : Difference) : Type 0 where
    byte : ℕ
    above : b ≤ byte
    below : byte < b + k
    there : AtByte S D i r q byte d

  record_only : (b k : ℕ) (d : Difference) → Memᴰ d (in_record S D i r q b k) → InBytes b k d
  unfolding in_record
  record_only b zero d m = absurd (Memᴰ.not-nil m)
  record_only b (suc k) d m =
      ⊎_elim
      (λ (l : Memᴰ d (at_byte S D i r q b)). record { byte = b; above = le_refl b; below = omega arith; there = byte_only b d l })
      (λ (l : Memᴰ d (in_record S D i r q (suc b) k)).
      let h = record_only (suc b) k d l in
      record { byte = h.byte; above = omega (arith, h.above); below = omega (arith, h.below); there = h.there })
      (Memᴰ.append_cases (at_byte S D i r q b) m)

  record_every : (b k : ℕ) (d : Difference) (c : ℕ) → b ≤ c → c < b + k → AtByte S D i r q c d → Memᴰ d (in_record S D i r q b k)
  unfolding in_record
  record_every b zero d c l h t = absurd (omega arith)
  record_every b (suc k) d c l h t =
      ⊎_elim
      (λ (e : b ≡ c). Memᴰ.append_left (in_record S D i r q (suc b) k) (byte_every b d (subst (λ (j : ℕ). AtByte S D i r q j d) (sym e) t)))
      (λ (e : b < c). Memᴰ.append_right (at_byte S D i r q b) (record_every (suc b) k d c e (omega arith) t)) (eq-or-lt_of_le l)

  record_order : (b k : ℕ) → InOrder (in_record S D i r q b k)
  unfolding in_record
  record_order b zero = tt
  record_order b (suc k) =
      in_order_append (at_byte S D i r q b) (in_record S D i r q (suc b) k) (byte_order b) (record_order (suc b) k)
      (λ c d l m.
      let x = byte_only b c l in
      let y = record_only (suc b) k d m in
      inr (rw (x.is, y.there.is) refl, rw (x.is, y.there.is) y.above))

-- ---- the k records from i on

module _ (S D : Datatype) (first second : List ℕ) where
  record InTheRecords (i k : ℕ) (d : Difference) : Type 0 where
    index : ℕ
    above : i ≤ index
    below : index < i + k
    byte : ℕ
    inside : byte < size D
    there : AtByte S D index (record_at (size S) index first) (record_at (size D) index second) byte d

  records_only : (i k : ℕ) (d : Difference) → Memᴰ d (in_records S D first second i k) → InTheRecords i k d
  unfolding in_records
  records_only i zero d m = absurd (Memᴰ.not-nil m)
  records_only i (suc k) d m =
      let r = record_at (size S) i first in
      let q = record_at (size D) i second in
      ⊎_elim
      (λ (l : Memᴰ d (in_record S D i r q 0 (size D))).
      let h = record_only S D i r q 0 (size D) d l in
      record { index = i; above = le_refl i; below = omega arith; byte = h.byte; inside = omega (arith, h.below); there = h.there })
      (λ (l : Memᴰ d (in_records S D first second (suc i) k)).
      let h = records_only (suc i) k d l in
      record { index = h.index; above = omega (arith, h.above); below = omega (arith, h.below); byte = h.byte; inside = h.inside; there = h.there })
      (Memᴰ.append_cases (in_record S D i r q 0 (size D)) m)

  records_every : (i k : ℕ) (d : Difference) (j c : ℕ) → i ≤ j → j < i + k → c < size D
      → AtByte S D j (record_at (size S) j first) (record_at (size D) j second) c d → Memᴰ d (in_records S D first second i k)
  unfolding in_records
  records_every i zero d j c l h s t = absurd (omega arith)
  records_every i (suc k) d j c l h s t =
      let r = record_at (size S) i first in
      let q = record_at (size D) i second in
      ⊎_elim
      (λ (e : i ≡ j). Memᴰ.append_left (in_records S D first second (suc i) k) (record_every S D i r q 0 (size D) d c (omega arith) (omega arith)
      (subst (λ (x : ℕ). AtByte S D x (record_at (size S) x first) (record_at (size D) x second) c d) (sym e) t)))
      (λ (e : i < j). Memᴰ.append_right (in_record S D i r q 0 (size D)) (records_every (suc i) k d j c e (omega arith) s t)) (eq-or-lt_of_le l)

  records_order : (i k : ℕ) → InOrder (in_records S D first second i k)
  unfolding in_records
  records_order i zero = tt
  records_order i (suc k) =
      let r = record_at (size S) i first in
      let q = record_at (size D) i second in
      in_order_append (in_record S D i r q 0 (size D)) (in_records S D first second (suc i) k) (record_order S D i r q 0 (size D)) (records_order (suc i) k)
      (λ c d l m.
      let x = record_only S D i r q 0 (size D) c l in
      let y = records_only (suc i) k d m in
      inl (rw (x.there.is, y.there.is) y.above))

-- ---- the whole list

module _ (S D : Datatype) (fs : WellFormed S) (fd : WellFormed D) (n : ℕ) (first second : List ℕ) where
  only : (d : Difference) → Memᴰ d (differences S D n first second) → IsDifference S D n first second d
  only d m =
      let h = records_only S D first second 0 n d m in
      let t = h.there in
      record {
        leaf = record { index = h.index; from = t.from; to = h.byte; source = t.source; destination = t.destination; in_records_lem = omega (arith, h.below); match = t.match };
        differ = t.differ;
        index = ap (λ (c : Difference). c.index) t.is;
        at = ap (λ (c : Difference). c.at) t.is;
        first_number = ap (λ (c : Difference). c.first) t.is;
        second_number_lem = ap (λ (c : Difference). c.second) t.is;
      }

  every : (d : Difference) → IsDifference S D n first second d → Memᴰ d (differences S D n first second)
  every d h =
      let m = h.leaf in
      records_every S D first second 0 n d m.index m.to (omega arith) (omega (arith, m.in_records_lem)) (way_starts (match_way D S fd m.match) fd)
      (record {
        from = m.from;
        source = m.source;
        destination = m.destination;
        match = m.match;
        differ = h.differ;
        is = by_parts d m.index m.to (matched_number m first) (second_number m second) h.index h.at h.first_number h.second_number_lem;
      })

  none_same : differences S D n first second ≡ [] → (m : MatchedLeaf S D n) → Same m first second
  none_same e m = go (same_in m.source m.destination (matched_number m first) (second_number m second)) refl
    where
      go : (t : Bool) → same_in m.source m.destination (matched_number m first) (second_number m second) ≡ t
          → same_in m.source m.destination (matched_number m first) (second_number m second) ≡ true
      go true q = q
      go false q =
          absurd
          (Memᴰ.not-nil
          (subst (Memᴰ (record { index = m.index; at = m.to; first = matched_number m first; second = second_number m second })) e
          (every (record { index = m.index; at = m.to; first = matched_number m first; second = second_number m second })
          (record { leaf = m; differ = q; index = refl; at = refl; first_number = refl; second_number_lem = refl }))))

  same_none : ((m : MatchedLeaf S D n) → Same m first second) → differences S D n first second ≡ []
  same_none f = go (differences S D n first second) refl
    where
      go : (ds : List Difference) → differences S D n first second ≡ ds → ds ≡ []
      go [] e = refl
      go (d ∷ ds) e =
          let h = only d (subst (Memᴰ d) (sym e) (Memᴰ.head refl)) in
          absurd (true≢false (sym (f h.leaf) ∙ h.differ))

  pub says : Says S D n first second
  says =
      record {
        exactly = λ d. (only d, every d);
        in_order = records_order S D first second 0 n;
        nothing = (none_same, same_none);
      }
