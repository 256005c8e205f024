-- The mask has exactly the significant bits of the matched source leaves. Assumes nothing: the types are well formed, as those of sheets are (crate sheet).
use mathlib.Core.Path.{◌≡◌, refl, sym, ap, ◌∙◌, subst₂}
use mathlib.Core.Logic.{◌⊎◌, inl, inr, ⊎_elim}
use mathlib.Core.List.{List}
use Prim.Native.Nat.{ℕ, zero, suc, ◌+◌, ◌≤◌, ◌<◌}
use native.Mathlib.Nat.{eq-or-lt_of_le, lt_of_not-le}
use native.Mathlib.Decide.{dec_le}
use native.Mathlib.Omega.{arith}
use lib.ListN.{length, get_or, replicate, length-replicate, get_or-replicate, get_or-eq_default}
use Rattle.bits.specs.Container.{bit}
use Rattle.datatype.specs.Datatype.{Leaf, leaf_size, Datatype, size}
use Rattle.datatype.specs.Matches.{Match, on_match, match_at}
use Rattle.datatype.specs.Matches.Match.{unmatched, matched}
use Rattle.datatype.specs.WellFormed.{WellFormed}
use Rattle.datatype.proofs.Ways.{no_match, match_way, way_starts}
use Rattle.datatype.proofs.Matches.{in_range, match_formed}
use Rattle.masks.specs.Mask.{marked, marked_at, marked_from, mask}
use Rattle.masks.specs.Says.{Significant, Says}
use Rattle.masks.proofs.Bits.{bit_zero}
use Rattle.masks.proofs.Marked.{BitOf, marked_length, marked_bytes, marked_sets, marked_cases}

module _ (S D : Datatype) (f : WellFormed S) (g : WellFormed D) where
  -- t is m with the significant bits of the leaves set that the destination leaves at the k bytes from b on are matched with
  record Marks (m t : List ℕ) (b k : ℕ) : Type 0 where
    long : length t ≡ size S
    bytes : (j : ℕ) → get_or t j 0 < 256
    keeps : (j q : ℕ) → q < 8 → bit q (get_or m j 0) ≡ 1 → bit q (get_or t j 0) ≡ 1
    sets : (j q : ℕ) (s : Significant S D j q) → b ≤ s.to → s.to < b + k → bit q (get_or t j 0) ≡ 1
    only : (j q : ℕ) → q < 8 → bit q (get_or t j 0) ≡ 1 → (bit q (get_or m j 0) ≡ 1) ⊎ Significant S D j q

  -- the matched leaf at byte b of the destination record
  leaf_marks : (b : ℕ) (m : List ℕ) → length m ≡ size S → ((j : ℕ) → get_or m j 0 < 256) → Marks m (marked_at S D b m) b 1
  unfolding marked_at
  leaf_marks b m long hb = at (match_at S D b) refl
    where
      at : (c : Match) → match_at S D b ≡ c → Marks m (on_match (λ a x y. marked x a m) m c) b 1
      at unmatched e =
          record {
            long = long;
            bytes = hb;
            keeps = λ j q h o. o;
            sets = λ j q s l h.
                let i : s.to ≡ b = omega arith in
                no_match (sym e ∙ ap (match_at S D) (sym i) ∙ s.match);
            only = λ j q h o. inl o;
          }
      at (matched a x y) e =
          let w = (match_formed S D f g b a x y e).0 in
          let fits : a + leaf_size x ≤ length m = omega (arith, (in_range S D f g b a x y e).1) in
          record {
            long = marked_length x w a m fits hb ∙ long;
            bytes = marked_bytes x w a m fits hb;
            keeps = λ j q h o.
                ⊎_elim (λ (c : BitOf x a j q). marked_sets x w a m fits hb j q c) (λ same. same ∙ o) (marked_cases x w a m fits hb j q h);
            sets = λ j q s l h. marked_sets x w a m fits hb j q (this j q s (omega arith));
            only = λ j q h o.
                ⊎_elim
                (λ (c : BitOf x a j q).
                inr
                (record {
                  to = b;
                  from = a;
                  source = x;
                  destination = y;
                  match = e;
                  at = c.at;
                  from_offset = c.from_offset;
                  within_precision = c.within_precision;
                  byte = c.byte;
                  bit = c.bit;
                }))
                (λ same. inl (sym same ∙ o)) (marked_cases x w a m fits hb j q h);
          }
        where
          -- a significant bit whose destination leaf starts at byte b is one of the leaf x
          this : (j q : ℕ) (s : Significant S D j q) → s.to ≡ b → BitOf x a j q
          this j q s i =
              let c : matched s.from s.source s.destination ≡ matched a x y = sym s.match ∙ ap (match_at S D) i ∙ e in
              let u : s.source ≡ x = cc (c) in
              let v : s.from ≡ a = cc (c) in
              subst₂ (λ (z : Leaf) (d : ℕ). BitOf z d j q) u v
              (record { at = s.at; from_offset = s.from_offset; within_precision = s.within_precision; byte = s.byte; bit = s.bit })

  from_marks : (b k : ℕ) (m : List ℕ) → length m ≡ size S → ((j : ℕ) → get_or m j 0 < 256) → Marks m (marked_from S D b k m) b k
  unfolding marked_from
  from_marks b zero m long hb = record { long = long; bytes = hb; keeps = λ j q h o. o; sets = λ j q s l h. absurd (omega arith); only = λ j q h o. inl o }
  from_marks b (suc k) m long hb =
      let first = leaf_marks b m long hb in
      let later = from_marks (suc b) k (marked_at S D b m) first.long first.bytes in
      record {
        long = later.long;
        bytes = later.bytes;
        keeps = λ j q h o. later.keeps j q h (first.keeps j q h o);
        sets = λ j q s l h.
            ⊎_elim (λ (e : b ≡ s.to). later.keeps j q (below j q s) (first.sets j q s l (omega arith))) (λ (e : b < s.to). later.sets j q s e (omega arith))
            (eq-or-lt_of_le l);
        only = λ j q h o. ⊎_elim (λ (c : bit q (get_or (marked_at S D b m) j 0) ≡ 1). first.only j q h c) (λ s. inr s) (later.only j q h o);
      }
    where
      below : (j q : ℕ) → Significant S D j q → q < 8
      below j q s = omega (arith, s.bit)

  abbrev zeros : List ℕ
  zeros = replicate (size S) 0

  zero_at : (j : ℕ) → get_or zeros j 0 ≡ 0
  zero_at j = at (dec_le (size S) j)
    where
      at : Dec (size S ≤ j) → get_or zeros j 0 ≡ 0
      at (yes h) = get_or-eq_default zeros 0 (rw (length-replicate {A = ℕ} (size S) 0) h)
      at (no h) = get_or-replicate {A = ℕ} (size S) j 0 0 (lt_of_not-le h)

  whole : Marks zeros (mask S D) 0 (size D)
  unfolding mask
  whole = from_marks 0 (size D) zeros (length-replicate {A = ℕ} (size S) 0) (λ j. rw (zero_at j) (omega arith))

  -- the mask has exactly the significant bits of the matched source leaves
  pub says : Says S D
  says =
      record {
        long = whole.long;
        exactly = λ j q l h. (
          λ o.
              ⊎_elim (λ (c : bit q (get_or zeros j 0) ≡ 1). absurd (let z : bit q (get_or zeros j 0) ≡ 0 = ap (bit q) (zero_at j) ∙ bit_zero q in omega arith)) (λ s. s)
              (whole.only j q h o),
          λ s. whole.sets j q s (omega arith) (omega (arith, way_starts (match_way D S g s.match) g)),
        );
        bytes = whole.bytes;
      }
