-- The mask, from match to match. Assumes nothing.
use mathlib.Core.Path.{◌≡◌, refl, sym, ap, ◌∙◌}
use mathlib.Core.List.{List, [], ◌∷◌, ◌++◌, append-nil}
use Prim.Native.Nat.{ℕ, zero, suc, ◌+◌, ◌-◌, ◌^◌, ◌≤◌, ◌<◌}
use native.Mathlib.Nat.{le_of_eq}
use native.Mathlib.Omega.{arith}
use lib.Pow.{pow_pos}
use lib.ListN.{length, replicate, drop, drop_of_length-le}
use Rattle.layout.specs.declared.Layout.{Layout}
use Rattle.layout.specs.Layout.{Valid}
use Rattle.number.specs.Place.{stored}
use Rattle.datatype.specs.Datatype.{Datatype, size}
use Rattle.datatype.specs.Matches.{Match, on_match, match_at}
use Rattle.datatype.specs.Matches.Match.{unmatched, matched}
use Rattle.datatype.specs.WellFormed.{WellFormed}
use Rattle.datatype.proofs.Ways.{valid}
use Rattle.datatype.proofs.Matches.{size_most, in_range, match_formed}
use Rattle.table.specs.Table.{size_word, layout_at, leaf_of_type, type_at}
use Rattle.table.specs.Words.{Reads}
use Rattle.two_sheets.specs.TwoSheets.{Both}
use Rattle.records.specs.Plan.{Entry, plan_from}
use Rattle.plans.proofs.LeafSteps.{leaf_layout}
use Rattle.paths.specs.declared.Pair.{Pair}
use Rattle.paths.specs.declared.Pair.TheVariants.{Matched, Unmatched}
use Rattle.paths.specs.Leaf.{match_of, MatchFound}
use Rattle.paths.specs.Plan.{entry_of, step_of}
use Rattle.paths.proofs.Shapes.{size_decode}
use Rattle.paths.proofs.Entries.{Stepped, plan_step, plan_done, stepped}
use Rattle.masks.specs.Mask.{pads_kept, marked, marked_at, marked_from, mask}
use Rattle.mask_marking.specs.Marking.{marked_match, marked_over, Reached}

-- ---- one leaf

pub kept_valid : (l : Layout) → Valid l → Valid (pads_kept l)
kept_valid l v = record { some_bytes = v.some_bytes; sized = v.sized; some = v.some; most = v.most; inside = v.inside; sign = v.sign }

-- what a write of all significant bits needs
pub ones_stored : (l : Layout) {k : Layout} {r : ℕ} (at n : ℕ) → k ≡ pads_kept l → r ≡ 2 ^ l.precision - 1 → Valid l → at + l.size.0 ≤ n
    → Valid k × (at + k.size.0 ≤ n) × (r < 2 ^ k.precision)
ones_stored l at n e o v h =
    let some : 0 < 2 ^ l.precision = pow_pos l.precision in
    rw (e, o) (kept_valid l v, h, omega arith)

-- ---- one match

module _ (ws : List ℕ) {m : Pair} where
  pub none_marked : {n : ℕ} (r : List ℕ) → m ≡ Unmatched n → (ts wd td : List ℕ) → r ≡ marked_match (match_of ws ts wd td m) r
  none_marked r e ts wd td = rw e refl

  pub leaf_reached : {a s d : ℕ} (bytes : ℕ) → m ≡ Matched a s d → Reached bytes m ws → Valid (layout_at ws s) × (a + (layout_at ws s).size.0 ≤ bytes)
  leaf_reached bytes e h = rw e at h

  pub leaf_marked : {a s d : ℕ} (r out : List ℕ) → m ≡ Matched a s d → out ≡ stored (pads_kept (layout_at ws s)) a (2 ^ (layout_at ws s).precision - 1) r
      → (ts wd td : List ℕ) → out ≡ marked_match (match_of ws ts wd td m) r
  leaf_marked {s = s} r out e o ts wd td = rw (e, leaf_layout ws ts s) o

-- ---- from one byte with a match to the next that may have one

marked_by : List Entry → List ℕ → List ℕ
marked_by [] m = m
marked_by (e ∷ es) m = marked_by es (marked e.source e.from m)

marked_entry : (b : ℕ) (t : Match) (later : List Entry) (m : List ℕ) → marked_by (entry_of b t ++ later) m ≡ marked_by later (marked_match t m)
unfolding marked_by
marked_entry b unmatched later m = refl
marked_entry b (matched a x y) later m = refl

module _ (S D : Datatype) where
  marked_plan : (b k : ℕ) (m : List ℕ) → marked_from S D b k m ≡ marked_by (plan_from S D b k) m
  unfolding plan_from marked_by marked_from marked_at
  marked_plan b zero m = refl
  marked_plan b (suc k) m = go (match_at S D b) (λ x. marked_plan (suc b) k x)
    where
      go : (t : Match) → ((x : List ℕ) → marked_from S D (suc b) k x ≡ marked_by (plan_from S D (suc b) k) x)
          → marked_from S D (suc b) k (on_match (λ a x y. marked x a m) m t)
          ≡ marked_by (on_match (λ a x y. record { to = b; from = a; source = x; destination = y } ∷ plan_from S D (suc b) k) (plan_from S D (suc b) k) t) m
      go unmatched next = next m
      go (matched a x y) next = next (marked x a m)

  marked_step : (b n z : ℕ) (m : List ℕ) → z ≡ size D → Stepped S D b n
      → marked_from S D b (z - b) m ≡ marked_from S D (b + n) (z - (b + n)) (marked_match (match_at S D b) m)
  marked_step b n z m e on =
      marked_plan b (z - b) m
      ∙ ap (λ (es : List Entry). marked_by es m) (plan_step S D b n z on.some (omega (arith, on.inside)) on.none)
      ∙ marked_entry b (match_at S D b) (plan_from S D (b + n) (z - (b + n))) m
      ∙ sym (marked_plan (b + n) (z - (b + n)) (marked_match (match_at S D b) m))

  marked_done : (b z : ℕ) (m : List ℕ) → z ≤ b → marked_from S D b (z - b) m ≡ m
  unfolding marked_by
  marked_done b z m h = marked_plan b (z - b) m ∙ rw (plan_done S D b z h) refl

-- ---- the walk

module _ (ss ws : List ℕ) (i : ℕ) (ds wd : List ℕ) (k : ℕ) where
  abbrev S : Datatype
  S = type_at ws ss i

  abbrev D : Datatype
  D = type_at wd ds k

  -- in `now` the leaves before byte b of the destination's `bytes` are marked
  pub record Left (before : List ℕ) (bytes : ℕ) (now : List ℕ) (b : ℕ) : Type 0 where
    pub rest : marked_from (type_at ws ss i) (type_at wd ds k) b (bytes - b) now ≡ marked_over (type_at ws ss i) (type_at wd ds k) before
    pub long : length now ≡ length before
    pub inside : b ≤ bytes
    pub whole : bytes ≡ size (type_at wd ds k)

  module _ (both : Both ss ws i ds wd k) where
    pub left_start : {bytes : ℕ} (m : List ℕ) → Reads (size_word wd k) bytes → Left m bytes m 0
    left_start {bytes} m h =
        let is : bytes ≡ size D = h.is ∙ sym (size_decode 64 wd ds k) in
        let all : bytes - 0 ≡ bytes = omega arith in
        record { rest = rw (all, is) refl; long = refl; inside = omega arith; whole = is }

    module _ {before now : List ℕ} {bytes b : ℕ} (left : Left before bytes now b) where
      -- what the question for a match asks
      pub match_asked : b < bytes → WellFormed S × WellFormed D × (b < size D)
      match_asked h = (both.source, both.destination, omega (arith, left.whole))

      module _ {m : Pair} (found : MatchFound ws ss i wd ds k b m) where
        -- the source leaf of a match lies inside the record
        pub match_reached : length before ≡ size S → Reached (length now) m ws
        match_reached e = rw (left.long ∙ e) (go m found.is)
          where
            go : (p : Pair) → match_of ws ss wd ds p ≡ match_at S D b → Reached (size S) p ws
            go (Unmatched n) q = tt
            go (Matched a s d) q =
                let lays = leaf_layout ws ss s in
                let formed = match_formed S D both.source both.destination b a (leaf_of_type ws ss s) (leaf_of_type wd ds d) (sym q) in
                let range = in_range S D both.source both.destination b a (leaf_of_type ws ss s) (leaf_of_type wd ds d) (sym q) in
                rw (← lays) (valid (leaf_of_type ws ss s) formed.0, range.1)

        module _ {step : ℕ} (hs : step ≡ step_of wd m) where
          on : Stepped S D b step
          on = rw hs (stepped ws ss i wd ds k b m both.source both.destination found)

          -- the step goes on, and not past the end
          pub step_some : 1 ≤ step
          step_some = on.some

          pub step_inside : b + step ≤ 4096
          step_inside = omega (arith, on.inside, size_most D both.destination)

          pub left_turn : (out : List ℕ) → length out ≡ length now → ((ts wd' td : List ℕ) → out ≡ marked_match (match_of ws ts wd' td m) now) → Left before bytes out (b + step)
          left_turn out long is =
              record {
                rest = rw (is ss wd ds, found.is) (sym (marked_step S D b step bytes now left.whole on) ∙ left.rest);
                long = long ∙ left.long;
                inside = omega (arith, on.inside, left.whole);
                whole = left.whole;
              }

      pub left_end : bytes ≤ b → now ≡ marked_over S D before
      left_end h = sym (marked_done S D b bytes now h) ∙ left.rest

    -- over zeros that is the mask
    pub mask_marked : (m out : List ℕ) → length m ≡ size S → out ≡ marked_over S D (replicate (length m) 0 ++ drop (length m) m) → out ≡ mask S D
    unfolding mask
    mask_marked m out long o =
        let none : drop (length m) m ≡ [] = drop_of_length-le m (le_of_eq refl) in
        rw (none, append-nil, long) at o
