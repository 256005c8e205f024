-- The differences in a record, by the entries of a plan, and their lines. Assumes nothing.
use mathlib.Core.Path.{◌≡◌, refl, sym, ap, ap₂, ◌∙◌}
use mathlib.Core.Bool.{cond}
use mathlib.Core.List.{List, [], ◌∷◌, ◌++◌, append-nil, append_assoc}
use Prim.Native.Nat.{ℕ, zero, suc, ◌+◌, ◌*◌, ◌-◌, ◌≤◌, ◌<◌}
use native.Mathlib.Nat.{le_refl}
use native.Mathlib.Omega.{arith}
use lib.ListN.{length, take, length-append}
use lib.Seq.{take-take, length-take-le}
use lib.IntN.{ℤ}
use Rattle.layout.specs.declared.Layout.{Layout}
use Rattle.bits.specs.Container.{container, field}
use Rattle.number.specs.Number.{valued}
use Rattle.text.specs.Written.{Wrote}
use Rattle.text.proofs.Written.{wrote_none, wrote_then}
use Rattle.datatype.specs.Datatype.{Leaf, layout_of, leaf_size, Datatype, size}
use Rattle.datatype.specs.Matches.{Match, on_match, match_at}
use Rattle.datatype.specs.Matches.Match.{unmatched, matched}
use Rattle.records.specs.Leaf.{number_in}
use Rattle.records.specs.Plan.{Entry, plan_from, plan_of, AllSound}
use Rattle.plans.specs.declared.PlanEntry.{PlanEntry}
use Rattle.plans.specs.PlanWords.{entry_at, entries_from, entries_at}
use Rattle.plans.specs.PlanEntries.{words_at}
use Rattle.plans.proofs.Entries.{entries_last}
use Rattle.loops.proofs.Lists.{part_agree}
use Rattle.std.specs.Prelude.{Option, Some, None}
use Rattle.differences.specs.Same.{same_in}
use Rattle.differences.specs.Differences.{Difference, of_leaf, at_byte, in_record, line, lines}
use Rattle.comparing.specs.declared.Differing.{Differing}
use Rattle.comparing.specs.Comparing.{EntrySays, EntryFormed, EntriesFormed, difference_of, entry_text, of_entry, by_entries, record_text}

-- ---- the leaves by bytes are the leaves by the plan's entries

module _ (S D : Datatype) (i : ℕ) (p q : List ℕ) where
  entries_next : (b k : ℕ) → at_byte S D i p q b ++ by_entries (plan_from S D (suc b) k) i p q ≡ by_entries (plan_from S D b (suc k)) i p q
  unfolding at_byte plan_from by_entries
  entries_next b k = go (match_at S D b)
    where
      go : (m : Match)
          → on_match (of_leaf i b p q) [] m ++ by_entries (plan_from S D (suc b) k) i p q
          ≡ by_entries (on_match (λ a x y. record { to = b; from = a; source = x; destination = y } ∷ plan_from S D (suc b) k) (plan_from S D (suc b) k) m) i p q
      go unmatched = refl
      go (matched a x y) = refl

  entries_from_lem : (b k : ℕ) → in_record S D i p q b k ≡ by_entries (plan_from S D b k) i p q
  unfolding in_record plan_from by_entries
  entries_from_lem b zero = refl
  entries_from_lem b (suc k) = ap (λ (ds : List Difference). at_byte S D i p q b ++ ds) (entries_from_lem (suc b) k) ∙ entries_next b k

  pub record_by_entries : in_record S D i p q 0 (size D) ≡ by_entries (plan_of S D) i p q
  record_by_entries = entries_from_lem 0 (size D)

-- ---- the record is the first s bytes of r: a longer part that begins with it reads as it does

module _ (s : ℕ) (r : List ℕ) (h : s ≤ length r) where
  pub number_front : (x : Leaf) (a : ℕ) → a + leaf_size x ≤ s → number_in x a r ≡ number_in x a (take s r)
  number_front x a fits =
      let l : Layout = layout_of x in
      let wide : a ≤ length (take s r) = rw (length-take-le s r h) (omega arith) in
      ap (λ (b : List ℕ). valued l.signed l.precision (field l.offset.0 l.precision (container l.order b)))
      (part_agree a (leaf_size x) r (take s r) (omega arith) wide (sym (take-take (a + leaf_size x) s r fits)))

module _ (i s d : ℕ) (p q : List ℕ) (h : s ≤ length p) (g : d ≤ length q) where
  pub entries_front : (es : List Entry) → AllSound s d es → by_entries es i p q ≡ by_entries es i (take s p) (take d q)
  unfolding by_entries
  entries_front [] f = refl
  entries_front (e ∷ es) f =
      ap₂ (λ (a b : List Difference). a ++ b)
      (ap₂
      (λ (z w : ℤ). cond (same_in e.source e.destination z w) [] (record { index = i; at = e.to; first = z; second = w } ∷ []))
      (number_front s p h e.source e.from f.0.read)
      (number_front d q g e.destination e.to f.0.write))
      (entries_front es f.1)

-- ---- lines

pub lines_append : (xs ys : List Difference) → lines (xs ++ ys) ≡ lines xs ++ lines ys
unfolding lines
lines_append [] ys = refl
lines_append (x ∷ xs) ys = ap (λ (l : List ℕ). line x ++ l) (lines_append xs ys) ∙ sym (append_assoc (line x) (lines xs) (lines ys))

by_append : (es fs : List Entry) (i : ℕ) (p q : List ℕ) → by_entries (es ++ fs) i p q ≡ by_entries es i p q ++ by_entries fs i p q
unfolding by_entries
by_append [] fs i p q = refl
by_append (e ∷ es) fs i p q =
    ap (λ (l : List Difference). of_entry i p q e ++ l) (by_append es fs i p q) ∙ sym (append_assoc (of_entry i p q e) (by_entries es i p q) (by_entries fs i p q))

-- ---- one entry, of which r says what its numbers are

module _ (i : ℕ) (p q : List ℕ) (e : PlanEntry) (ss ws ds wd : List ℕ) (r : Option Differing) (says : EntrySays e ss ws ds wd p q r) where
  module _ (is : r ≡ None) where
    pub no_text : entry_text i p q e ss ws ds wd ≡ []
    unfolding entry_text lines
    no_text = rw (rw is at says) refl

    pub no_length : (0 ≡ length (entry_text i p q e ss ws ds wd)) × (0 ≤ 84)
    no_length = (rw no_text refl, omega arith)

    pub no_line : (list : List ℕ) (at : ℕ) → Wrote list at (entry_text i p q e ss ws ds wd) list at
    no_line list at = rw no_text (wrote_none list at)

  module _ (d : Differing) (is : r ≡ Some d) where
    pub line_text : entry_text i p q e ss ws ds wd ≡ line (difference_of i e.to d.first d.second)
    unfolding entry_text lines
    line_text =
        let differ = rw is at says in
        rw (differ.0, ← differ.1, ← differ.2) (append-nil (line (difference_of i e.to d.first d.second)))

    pub line_length : (k : ℕ) → (k ≡ length (line (difference_of i e.to d.first d.second))) × (k ≤ 84) → (k ≡ length (entry_text i p q e ss ws ds wd)) × (k ≤ 84)
    line_length k h = (h.0 ∙ ap length (sym line_text), h.1)

    pub line_room : (at k : ℕ) → at + length (entry_text i p q e ss ws ds wd) ≤ k → at + length (line (difference_of i e.to d.first d.second)) ≤ k
    line_room at k h = rw line_text at h

    pub the_line : (list : List ℕ) (at : ℕ) (after : List ℕ) (k : ℕ) → Wrote list at (line (difference_of i e.to d.first d.second)) after k → Wrote list at (entry_text i p q e ss ws ds wd) after k
    the_line list at after k h = rw line_text h

-- ---- the entries of a record, one more at a time

module _ (i : ℕ) (p q plan ss ws ds wd : List ℕ) where
  pub none_yet : record_text i p q plan 0 ss ws ds wd ≡ []
  unfolding record_text entries_from by_entries lines
  none_yet = refl

  pub none_wrote : (list : List ℕ) (at : ℕ) → Wrote list at (record_text i p q plan 0 ss ws ds wd) list at
  none_wrote list at = rw none_yet (wrote_none list at)

  -- no entry is left
  pub all_counted : {n k len : ℕ} → k ≤ n → n ≤ k → n ≤ 4096 → len ≤ 84 * k → len ≡ length (record_text i p q plan k ss ws ds wd)
      → (len ≡ length (record_text i p q plan n ss ws ds wd)) × (len ≤ 344064)
  all_counted {n} {k} low high few most h = let e : n ≡ k = omega arith in (rw e h, omega arith)

  pub all_wrote : {n k : ℕ} {list : List ℕ} {at : ℕ} {after : List ℕ} {end : ℕ} → k ≤ n → n ≤ k
      → Wrote list at (record_text i p q plan k ss ws ds wd) after end → Wrote list at (record_text i p q plan n ss ws ds wd) after end
  all_wrote {n} {k} low high h = let e : n ≡ k = omega arith in rw e h

  text_more : (n : ℕ) → record_text i p q plan (n + 1) ss ws ds wd ≡ record_text i p q plan n ss ws ds wd ++ entry_text i p q (words_at plan n) ss ws ds wd
  unfolding record_text entry_text by_entries
  text_more n =
      let here : Entry = entry_at plan ws ss wd ds n in
      let before : List Entry = entries_at plan n ws ss wd ds in
      let e : n + 1 ≡ suc n = omega arith in
      rw e (ap (λ (es : List Entry). lines (by_entries es i p q)) (entries_last plan ws ss wd ds n)
      ∙ ap lines (by_append before (here ∷ []) i p q)
      ∙ lines_append (by_entries before i p q) (of_entry i p q here ++ [])
      ∙ ap (λ (l : List Difference). lines (by_entries before i p q) ++ lines l) (append-nil (of_entry i p q here)))

  text_grows : (n k : ℕ) → length (record_text i p q plan n ss ws ds wd) ≤ length (record_text i p q plan (n + k) ss ws ds wd)
  text_grows n zero = let e : n + 0 ≡ n = omega arith in rw e (le_refl _)
  text_grows n (suc k) =
      let e : n + suc k ≡ n + k + 1 = omega arith in
      rw e (omega
      (arith, text_grows n k, ap length (text_more (n + k)), length-append (record_text i p q plan (n + k) ss ws ds wd) (entry_text i p q (words_at plan (n + k)) ss ws ds wd)))

  module _ (n : ℕ) (e : PlanEntry) (is : e ≡ words_at plan n) where
    next : record_text i p q plan (n + 1) ss ws ds wd ≡ record_text i p q plan n ss ws ds wd ++ entry_text i p q e ss ws ds wd
    next = rw is (text_more n)

    long : length (record_text i p q plan (n + 1) ss ws ds wd) ≡ length (record_text i p q plan n ss ws ds wd) + length (entry_text i p q e ss ws ds wd)
    long = ap length next ∙ length-append (record_text i p q plan n ss ws ds wd) (entry_text i p q e ss ws ds wd)

    pub counted_more : (len r : ℕ) → len ≡ length (record_text i p q plan n ss ws ds wd) → r ≡ length (entry_text i p q e ss ws ds wd)
        → len + r ≡ length (record_text i p q plan (n + 1) ss ws ds wd)
    counted_more len r h k = omega (arith, h, k, long)

    -- a list that has room for the first m entries
    module _ (list : List ℕ) (start m : ℕ) (room : start + length (record_text i p q plan m ss ws ds wd) ≤ length list) (low : n < m) where
      within : start + length (record_text i p q plan (n + 1) ss ws ds wd) ≤ length list
      within =
          let e : n + 1 + (m - (n + 1)) ≡ m = omega arith in
          omega (arith, room, rw e at (text_grows (n + 1) (m - (n + 1))))

      module _ (now : List ℕ) (at : ℕ) (wrote : Wrote list start (record_text i p q plan n ss ws ds wd) now at) where
        pub entry_room_lem : at + length (entry_text i p q e ss ws ds wd) ≤ length now
        entry_room_lem = omega (arith, wrote.ends, wrote.same, within, long)

        pub wrote_more : (after : List ℕ) (k : ℕ) → Wrote now at (entry_text i p q e ss ws ds wd) after k
            → Wrote list start (record_text i p q plan (n + 1) ss ws ds wd) after k
        wrote_more after k h = rw next (wrote_then list start (omega (arith, within, long)) wrote h)

-- ---- each entry is formed

module _ {s d : ℕ} {plan : List ℕ} {n : ℕ} {ss ws ds wd : List ℕ} (f : EntriesFormed s d plan n ss ws ds wd) (i : ℕ) (h : i < n) where
  pub plan_room : 2 * i + 2 ≤ length plan
  plan_room = omega (arith, f.room)

  pub entry_formed : (e : PlanEntry) → e ≡ words_at plan i → EntryFormed s d e ss ws ds wd
  entry_formed e is = rw is (f.each i h)
