-- A plan's entries, one more at a time, and the steps from one to the next. Assumes nothing.
use mathlib.Core.Path.{◌≡◌, refl, sym, ap, ◌∙◌}
use mathlib.Core.Bool.{Bool, true, false, cond}
use mathlib.Core.List.{List, [], ◌∷◌, ◌++◌, append_assoc, append-nil}
use Prim.Native.Nat.{ℕ, zero, suc, ◌+◌, ◌-◌, ◌*◌, ◌/◌, ◌%◌, ◌≤◌, ◌<◌}
use native.Mathlib.Nat.{zero-add, add-zero, mul-add-div_right, mul-add-mod_self_right, div-eq_of_lt, mod-eq_of_lt}
use native.Mathlib.Numerals.{add-one}
use native.Mathlib.Omega.{arith}
use borrow.Author.Rules.{rules}
use lib.Dec.{eqb}
use lib.ListN.{get_or, length, set, length-set}
use lib.Seq.{get_or-set_same, get_or-set_other}
use Rattle.datatype.specs.Datatype.{Leaf, leaf_size, Datatype, size}
use Rattle.datatype.specs.Datatype.Leaf.{atomic, enumeration, real}
use Rattle.datatype.specs.Datatype.Datatype.{leaf}
use Rattle.datatype.specs.Matches.{Match, on_match, match_at}
use Rattle.datatype.specs.Matches.Match.{unmatched, matched}
use Rattle.datatype.specs.WellFormed.{WellFormed}
use Rattle.datatype.proofs.Matches.{size_some, size_most, in_range, match_leaf_lem, match_formed, leaves_apart}
use Rattle.records.specs.Plan.{Entry, plan_from, plan_of}
use Rattle.table.specs.Table.{class_word, size_word, first_word, rows_word, layout_at, symbols_at, type_at}
use Rattle.table.specs.Words.{Reads}
use Rattle.paths.specs.declared.Pair.{Pair}
use Rattle.paths.specs.declared.Pair.TheVariants.{Matched, Unmatched}
use Rattle.paths.specs.Leaf.{leaf_of_type, Small, NoneMatched, MatchIn, MatchFound}
use Rattle.plans.specs.PlanWords.{to_byte, from_byte, source_type_of, destination_type_of, entry_at, entries_from, entries_at}
use Rattle.paths.specs.Plan.{Planned, entry_put, entry_of, step_of, Added}
use Rattle.paths.proofs.Shapes.{size_decode}

-- ---- entries

module _ (ws ts wd td : List ℕ) where
  entry_kept : (p q : List ℕ) (e : ℕ) → ((k : ℕ) → k < 2 * e + 2 → get_or p k 0 ≡ get_or q k 0) → entry_at p ws ts wd td e ≡ entry_at q ws ts wd td e
  unfolding to_byte from_byte source_type_of destination_type_of
  entry_kept p q e h = rw (h (2 * e) (omega arith), h (2 * e + 1) (omega arith)) refl

  entries_kept : (p q : List ℕ) (e n : ℕ) → ((k : ℕ) → k < 2 * (e + n) → get_or p k 0 ≡ get_or q k 0) → entries_from p ws ts wd td e n ≡ entries_from q ws ts wd td e n
  unfolding entries_from
  entries_kept p q e zero h = refl
  entries_kept p q e (suc n) h =
      rw (entry_kept p q e (λ k l. h k (omega arith)), entries_kept p q (e + 1) n (λ k l. h k (omega arith))) refl

  entries_last : (p : List ℕ) (e n : ℕ) {m : ℕ} → e + n ≡ m → entries_from p ws ts wd td e (suc n) ≡ entries_from p ws ts wd td e n ++ (entry_at p ws ts wd td m ∷ [])
  unfolding entries_from
  entries_last p e zero {m} k = let at : e ≡ m = omega arith in rw at refl
  entries_last p e (suc n) k = ap (λ (l : List Entry). entry_at p ws ts wd td e ∷ l) (entries_last p (e + 1) n (omega arith))

-- ---- one entry more

-- two numbers in one word
module _ (a b m : ℕ) (h : b < m) where
  first_of : (a * m + b) / m ≡ a
  first_of = mul-add-div_right {m = m} (omega arith) a b ∙ rw (div-eq_of_lt h, add-zero) refl

  second_of : (a * m + b) % m ≡ b
  second_of = mul-add-mod_self_right a m b ∙ mod-eq_of_lt h

module _ (p : List ℕ) (n to from s d : ℕ) where
  put_length : length (entry_put p n to from s d) ≡ length p
  unfolding entry_put
  put_length = simp length-set

  put_before : (k : ℕ) → k < 2 * n → get_or (entry_put p n to from s d) k 0 ≡ get_or p k 0
  unfolding entry_put
  put_before k h =
      get_or-set_other (set p (2 * n) (to * 4096 + from)) (2 * n + 1) k (s * 64 + d) 0 (λ e. omega arith)
      ∙ get_or-set_other p (2 * n) k (to * 4096 + from) 0 (λ e. omega arith)

  module _ (room : 2 * n + 2 ≤ length p) where
    put_places : get_or (entry_put p n to from s d) (2 * n) 0 ≡ to * 4096 + from
    unfolding entry_put
    put_places =
        get_or-set_other (set p (2 * n) (to * 4096 + from)) (2 * n + 1) (2 * n) (s * 64 + d) 0 (λ e. omega arith)
        ∙ get_or-set_same p (2 * n) (to * 4096 + from) 0 (omega arith)

    put_types : get_or (entry_put p n to from s d) (2 * n + 1) 0 ≡ s * 64 + d
    unfolding entry_put
    put_types = get_or-set_same (set p (2 * n) (to * 4096 + from)) (2 * n + 1) (s * 64 + d) 0 (simp length-set (omega arith))

    put_entry : from < 4096 → d < 64 → (ws ts wd td : List ℕ)
        → entry_at (entry_put p n to from s d) ws ts wd td n ≡ record { to = to; from = from; source = leaf_of_type ws ts s; destination = leaf_of_type wd td d }
    unfolding to_byte from_byte source_type_of destination_type_of
    put_entry hf hd ws ts wd td =
        rw (put_places, put_types, first_of to from 4096 hf, second_of to from 4096 hf, first_of s d 64 hd, second_of s d 64 hd) refl

-- the numbers of a match fit the plan's words
module _ {m : Pair} {a s d : ℕ} (small : Small m) (e : m ≡ Matched a s d) where
  parts : (a < 4096) × (s < 64) × (d < 64)
  parts = rw e at small

  pub from_low : a < 4096
  from_low = parts.0

  pub source_low : s < 64
  source_low = parts.1

  pub destination_low : d < 64
  destination_low = parts.2

module _ (p : List ℕ) (n b : ℕ) {m : Pair} where
  pub added_none : {k : ℕ} → m ≡ Unmatched k → Added p n b m p n
  added_none e = record { entries = λ ws ts wd td. rw e (sym (append-nil (entries_at p n ws ts wd td))); room = refl; most = omega arith }

  pub added_one : {a s d : ℕ} (q : List ℕ) → m ≡ Matched a s d → Small m → 2 * n + 2 ≤ length p → q ≡ entry_put p n b a s d → Added p n b m q (n + 1)
  added_one {a} {s} {d} q e small h put =
      rw (put, e)
      record {
        entries = λ ws ts wd td.
            let last : 0 + n ≡ n = omega arith in
            rw (add-one)
            (entries_last ws ts wd td (entry_put p n b a s d) 0 n last
            ∙ rw (
              entries_kept ws ts wd td (entry_put p n b a s d) p 0 n (λ k l. put_before p n b a s d k (omega arith)),
              put_entry p n b a s d h (from_low small e) (destination_low small e) ws ts wd td,
            ) refl);
        room = put_length p n b a s d;
        most = omega arith;
      }

pub ruleset add_laws = (rules, added_none, added_one, from_low, source_low, destination_low)

-- ---- from one byte with a match to the next that may have one

module _ (S D : Datatype) where
  plan_next : (b k : ℕ) → plan_from S D b (suc k) ≡ entry_of b (match_at S D b) ++ plan_from S D (suc b) k
  unfolding plan_from
  plan_next b k = go (match_at S D b) (plan_from S D (suc b) k)
    where
      go : (m : Match) (later : List Entry)
          → on_match (λ a x y. record { to = b; from = a; source = x; destination = y } ∷ later) later m ≡ entry_of b m ++ later
      go unmatched later = refl
      go (matched a x y) later = refl

  pub plan_done : (b z : ℕ) → z ≤ b → plan_from S D b (z - b) ≡ []
  unfolding plan_from
  plan_done b z h = let e : z - b ≡ 0 = omega arith in rw e refl

  -- bytes without a match
  plan_none : (n b k : ℕ) → ((j : ℕ) → j < n → match_at S D (b + j) ≡ unmatched) → plan_from S D b (n + k) ≡ plan_from S D (b + n) k
  plan_none zero b k none = rw (zero-add, add-zero) refl
  plan_none (suc n) b k none =
      let more : suc n + k ≡ suc (n + k) = omega arith in
      let on : b + suc n ≡ suc b + n = omega arith in
      rw (more, on)
      (plan_next b (n + k)
      ∙ rw (rw add-zero at (none 0 (omega arith)))
      (plan_none n (suc b) k (λ j l. let at : suc b + j ≡ b + suc j = omega arith in rw at (none (suc j) (omega arith)))))

  -- one byte with what it has, and those behind it without a match
  pub plan_step : (b n z : ℕ) → 1 ≤ n → b + n ≤ z → ((j : ℕ) → 1 ≤ j → j < n → match_at S D (b + j) ≡ unmatched)
      → plan_from S D b (z - b) ≡ entry_of b (match_at S D b) ++ plan_from S D (b + n) (z - (b + n))
  plan_step b n z some inside none =
      let count : z - b ≡ suc (n - 1 + (z - (b + n))) = omega arith in
      let on : suc b + (n - 1) ≡ b + n = omega arith in
      rw count
      (plan_next b (n - 1 + (z - (b + n)))
      ∙ ap (λ (l : List Entry). entry_of b (match_at S D b) ++ l)
      (plan_none (n - 1) (suc b) (z - (b + n)) (λ j l. let at : suc b + j ≡ b + suc j = omega arith in rw at (none (suc j) (omega arith) (omega arith)))
      ∙ rw on refl))

-- n bytes from byte b on lie in D, and none but the first has a match
pub record Stepped (S D : Datatype) (b n : ℕ) : Type 0 where
  pub some : 1 ≤ n
  pub inside : b + n ≤ size D
  pub none : (j : ℕ) → 1 ≤ j → j < n → match_at S D (b + j) ≡ unmatched

module _ (S D : Datatype) (f : WellFormed S) (g : WellFormed D) where
  -- no leaf starts inside a leaf
  leaf_stepped : (b : ℕ) {a : ℕ} {x y : Leaf} → match_at S D b ≡ matched a x y → Stepped S D b (leaf_size y)
  leaf_stepped b {a} {x} {y} e =
      record {
        some = size_some (leaf y) (match_formed S D f g b a x y e).1;
        inside = (in_range S D f g b a x y e).0;
        none = λ j l h. go j l h (match_at S D (b + j)) refl;
      }
    where
      go : (j : ℕ) → 1 ≤ j → j < leaf_size y → (m : Match) → match_at S D (b + j) ≡ m → m ≡ unmatched
      go j l h unmatched q = refl
      go j l h (matched c u v) q =
          absurd (omega (arith, leaves_apart D g b (b + j) y v (match_leaf_lem S D f g b a x y e) (match_leaf_lem S D f g (b + j) c u v q) (omega arith)))

none_stepped : (S D : Datatype) (b n : ℕ) → NoneMatched S D b n → Stepped S D b n
none_stepped S D b n none =
    record { some = none.some; inside = omega (arith, none.some, (none.each (n - 1) (omega (arith, none.some))).0); none = λ j l h. (none.each j h).1 }

leaf_size_lem : (w t : List ℕ) (k : ℕ) → leaf_size (leaf_of_type w t k) ≡ size_word w k
unfolding leaf_of_type layout_at
leaf_size_lem w t k = go (eqb (class_word w k) 2) (eqb (class_word w k) 5)
  where
    go : (x y : Bool) → leaf_size (cond x (enumeration (layout_at w k) (symbols_at w t (first_word w k) (rows_word w k))) (cond y (real (layout_at w k)) (atomic (layout_at w k))))
        ≡ size_word w k
    go true y = refl
    go false true = refl
    go false false = refl

pub step_matched : (wd : List ℕ) {m : Pair} {a s d r : ℕ} → m ≡ Matched a s d → Reads (size_word wd d) r → r ≡ step_of wd m
step_matched wd e hr = rw e hr.is

pub found_in : {ws ts : List ℕ} {i : ℕ} {wd td : List ℕ} {k b : ℕ} {m : Pair} → MatchFound ws ts i wd td k b m → MatchIn ws ts wd td (type_at ws ts i) (type_at wd td k) b m
found_in found = record { is = found.is; small = found.small; behind = found.behind }

pub stepped_in : (ws ts wd td : List ℕ) (S D : Datatype) (b : ℕ) (m : Pair) → WellFormed S → WellFormed D → MatchIn ws ts wd td S D b m → Stepped S D b (step_of wd m)
stepped_in ws ts wd td S D b (Matched a s d) f g found = rw (← leaf_size_lem wd td d) (leaf_stepped S D f g b (sym found.is))
stepped_in ws ts wd td S D b (Unmatched n) f g found = none_stepped S D b n found.behind

pub stepped : (ws ts : List ℕ) (i : ℕ) (wd td : List ℕ) (k b : ℕ) (m : Pair) → WellFormed (type_at ws ts i) → WellFormed (type_at wd td k) → MatchFound ws ts i wd td k b m
    → Stepped (type_at ws ts i) (type_at wd td k) b (step_of wd m)
stepped ws ts i wd td k b m f g found = stepped_in ws ts wd td (type_at ws ts i) (type_at wd td k) b m f g (found_in found)

-- ---- the plan

-- the plan p, with n entries so far, has those of the leaves that start below byte b of the destination's `bytes`
pub record Filled (ws ts wd td : List ℕ) (S D : Datatype) (before : List ℕ) (bytes : ℕ) (p : List ℕ) (n b : ℕ) : Type 0 where
  pub entries : entries_at p n ws ts wd td ++ plan_from S D b (bytes - b) ≡ plan_of S D
  pub room : length p ≡ length before
  pub space : 2 * bytes ≤ length before
  pub few : n ≤ b
  pub inside : b ≤ bytes
  pub whole : bytes ≡ size D
  pub most : bytes ≤ 4096

module _ (ws ts wd td : List ℕ) (S D : Datatype) {bytes : ℕ} where
  pub filled_from : (p : List ℕ) → bytes ≡ size D → WellFormed D → 2 * size D ≤ length p → Filled ws ts wd td S D p bytes p 0 0
  unfolding entries_from
  filled_from p is formed space =
      record {
        entries = let all : bytes - 0 ≡ bytes = omega arith in rw (all, is) refl;
        room = refl;
        space = omega arith;
        few = omega arith;
        inside = omega arith;
        whole = is;
        most = omega (arith, size_most D formed);
      }

  module _ {before p : List ℕ} {n b : ℕ} (filled : Filled ws ts wd td S D before bytes p n b) where
    module _ {m : Pair} {step : ℕ} (fs : WellFormed S) (fd : WellFormed D) (found : MatchIn ws ts wd td S D b m) (hs : step ≡ step_of wd m) where
      on : Stepped S D b step
      on = rw hs (stepped_in ws ts wd td S D b m fs fd found)

      -- the step goes on, and not past the end
      pub step_some : 1 ≤ step
      step_some = on.some

      pub step_inside : b + step ≤ bytes
      step_inside = omega (arith, on.inside, filled.whole)

      pub filled_next : {q : List ℕ} {r : ℕ} → Added p n b m q r → Filled ws ts wd td S D before bytes q r (b + step)
      filled_next added =
          record {
            entries =
                rw (
                  added.entries ws ts wd td,
                  found.is,
                  append_assoc,
                  ← (plan_step S D b step bytes step_some step_inside on.none),
                ) filled.entries;
            room = added.room ∙ filled.room;
            space = filled.space;
            few = omega (arith, added.most, filled.few, step_some);
            inside = step_inside;
            whole = filled.whole;
            most = filled.most;
          }

    pub filled_done : bytes ≤ b → Planned ws ts wd td S D before p n
    filled_done h =
        record {
          entries = sym (append-nil (entries_at p n ws ts wd td)) ∙ rw (plan_done S D b bytes h) at filled.entries;
          room = filled.room;
          few = omega (arith, filled.few, filled.inside, filled.whole);
          most = omega (arith, filled.few, filled.inside, filled.most);
        }

pub filled_start : (ws ts : List ℕ) (i : ℕ) (wd td : List ℕ) (k : ℕ) {bytes : ℕ} (p : List ℕ) → Reads (size_word wd k) bytes → WellFormed (type_at wd td k)
    → 2 * size (type_at wd td k) ≤ length p → Filled ws ts wd td (type_at ws ts i) (type_at wd td k) p bytes p 0 0
filled_start ws ts i wd td k p h formed space = filled_from ws ts wd td (type_at ws ts i) (type_at wd td k) p (h.is ∙ sym (size_decode 64 wd td k)) formed space

-- two destinations with the same matches have the same plan
module _ (S D E : Datatype) (same : (b : ℕ) → match_at S D b ≡ match_at S E b) where
  from_same : (b k : ℕ) → plan_from S D b k ≡ plan_from S E b k
  unfolding plan_from
  from_same b zero = refl
  from_same b (suc k) = plan_next S D b k ∙ rw (same b, from_same (suc b) k) (sym (plan_next S E b k))

  pub plan_same : size D ≡ size E → plan_of S D ≡ plan_of S E
  plan_same sized = from_same 0 (size D) ∙ ap (plan_from S E 0) sized

pub ruleset plan_laws = (rules, found_in, filled_start, filled_next, filled_done)
