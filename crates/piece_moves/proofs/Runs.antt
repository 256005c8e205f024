-- Runs of entries whose leaves stay as they are, moved in one piece. Assumes nothing.
use mathlib.Core.Path.{◌≡◌, refl, sym, ap, ◌∙◌}
use mathlib.Core.List.{List, [], ◌∷◌, ◌++◌}
use Prim.Native.Nat.{ℕ, zero, suc, ◌+◌, ◌*◌, ◌-◌, ◌≤◌, ◌<◌}
use native.Mathlib.Omega.{arith}
use lib.ListN.{length, take, drop}
use lib.Seq.{paste}
use Rattle.bits.proofs.Eight.{Bytes, bytes_take, bytes_drop}
use Rattle.table.specs.Table.{layout_at}
use Rattle.records.specs.Records.{record_at}
use Rattle.records.specs.Plan.{Entry, written, raised_by, Sound, AllSound}
use Rattle.plans.specs.declared.PlanEntry.{PlanEntry}
use Rattle.plans.specs.PlanWords.{source_type_of, destination_type_of, to_byte, from_byte, entry_at, entries_from, Ready, entries_of}
use Rattle.plans.specs.PlanEntries.{words_at}
use Rattle.plans.proofs.Entries.{entry_ready}
use Rattle.blocks.specs.Blocks.{each_record, each_of, sum_to, raised_over}
use Rattle.blocks.proofs.Columns.{record_room, written_length, columns_each, columns_raised, sum_same}
use Rattle.blocks.proofs.Over.{Over}
use Rattle.same_bytes.specs.Same.{Adjoin}
use Rattle.same_bytes.proofs.Pieces.{sound, run_written, run_raised}
use Rattle.piece_moves.specs.Pieces.{each_piece}
use Rattle.piece_moves.proofs.Moves.{each_alike, piece_keeps}

-- ---- lists of entries

of_append : (s d : ℕ) (src : List ℕ) (c : ℕ) (es fs : List Entry) (dst : List ℕ) → each_of (es ++ fs) s d src c dst ≡ each_of fs s d src c (each_of es s d src c dst)
unfolding each_of
of_append s d src c [] fs dst = refl
of_append s d src c (e ∷ es) fs dst = of_append s d src c es fs _

over_append : (s : ℕ) (src : List ℕ) (c : ℕ) (es fs : List Entry) → raised_over (es ++ fs) s src c ≡ raised_over es s src c + raised_over fs s src c
unfolding raised_over
over_append s src c [] fs = omega arith
over_append s src c (e ∷ es) fs = rw (over_append s src c es fs) (omega arith)

module _ (plan ws ts wd td : List ℕ) where
  entries_split : (i x y : ℕ) → entries_from plan ws ts wd td i (x + y) ≡ entries_from plan ws ts wd td i x ++ entries_from plan ws ts wd td (i + x) y
  unfolding entries_from
  entries_split i zero y =
      let e : 0 + y ≡ y = omega arith in
      let f : i + 0 ≡ i = omega arith in
      rw (e, f)
  entries_split i (suc x) y =
      let e : suc x + y ≡ suc (x + y) = omega arith in
      let f : i + suc x ≡ i + 1 + x = omega arith in
      rw (e, f) (ap (λ (es : List Entry). entry_at plan ws ts wd td i ∷ es) (entries_split (i + 1) x y))

  sounds : (s d i k : ℕ) → ((j : ℕ) → i ≤ j → j < i + k → Sound s d (entry_at plan ws ts wd td j)) → AllSound s d (entries_from plan ws ts wd td i k)
  unfolding entries_from
  sounds s d i zero h = tt
  sounds s d i (suc k) h = (h i (omega arith) (omega arith), sounds s d (i + 1) k (λ j l u. h j (omega arith) (omega arith)))

sum_none : (c : ℕ) → sum_to (λ i. 0) c ≡ 0
unfolding sum_to
sum_none zero = refl
sum_none (suc c) = rw (sum_none c)

-- ---- a run

module _ {s d : ℕ} {plan : List ℕ} {n : ℕ} {ws wd words : List ℕ} (p : Ready s d plan n ws wd words) where
  abbrev run : ℕ → ℕ → List Entry
  run i k = entries_from plan ws p.source_text wd p.destination_text i k

  run_sound : (i k : ℕ) → i + k ≤ n → AllSound s d (entries_from plan ws p.source_text wd p.destination_text i k)
  run_sound i k h = sounds plan ws p.source_text wd p.destination_text s d i k (λ j l u. sound p j (omega arith))

  -- it lies within both records
  pub run_inside : (i to from k bytes : ℕ) → i + k ≤ n → 1 ≤ k → Adjoin plan ws wd i to from k bytes → (from + bytes ≤ s) × (to + bytes ≤ d)
  unfolding layout_at
  run_inside i to from zero bytes h some a = absurd (omega arith)
  run_inside i to from (suc k) bytes h some a =
      let t = a.3 in
      let q = entry_ready s d plan n ws wd words p (i + k) (omega arith) (words_at plan (i + k)) refl in
      let read : from_byte plan (i + k) + (layout_at ws (source_type_of plan (i + k))).size.0 ≤ s = q.read in
      let write : to_byte plan (i + k) + (layout_at wd (destination_type_of plan (i + k))).size.0 ≤ d = q.write in
      (omega (arith, read, t.reads, t.leaf.source.size, a.4), omega (arith, write, t.writes, t.leaf.destination.size, a.4))

  module _ (i to from k bytes : ℕ) (h : i + k ≤ n) (some : 1 ≤ k) (a : Adjoin plan ws wd i to from k bytes) (src : List ℕ) (c : ℕ) where
    -- the columns of its entries are one column of the piece
    pub run_each : (dst : List ℕ) → c * s ≤ length src → c * d ≤ length dst → Bytes src
        → each_of (entries_from plan ws p.source_text wd p.destination_text i k) s d src c dst ≡ each_piece bytes to from s d src c dst
    run_each dst held room hb =
        let within = run_inside i to from k bytes h some a in
        columns_each s d src c (run i k) dst (run_sound i k h) room
        ∙ each_alike (λ j x. written (run i k) (record_at s j src) x) (λ j x. paste x to (take bytes (drop from (record_at s j src))) bytes) d c dst
        (λ j l x e. written_length s d (run i k) (record_at s j src) x (run_sound i k h) e) (piece_keeps s d src c held bytes to from within.0 within.1) room
        (λ j l x e.
        let lr : length (record_at s j src) ≡ s = record_room s c j src l held in
        run_written p (record_at s j src) i to from k bytes x h a (rw lr within.0) (rw e within.1) (bytes_take s (drop (j * s) src) (bytes_drop (j * s) src hb)))

    -- and raise nothing
    pub run_quiet : raised_over (entries_from plan ws p.source_text wd p.destination_text i k) s src c ≡ 0
    run_quiet =
        columns_raised s src c (run i k)
        ∙ sum_same (λ j. raised_by (run i k) (record_at s j src)) (λ j. 0) c (λ j l. run_raised p (record_at s j src) i to from k bytes h a)
        ∙ sum_none c

  -- ---- in the loop over all entries

  -- the run's entries are done
  pub over_run : (src : List ℕ) (c : ℕ) (dst₀ : List ℕ) (j r raised : ℕ) (dst out : List ℕ) → j + r ≤ n → Over p src c dst₀ j dst raised
      → (out ≡ each_of (entries_from plan ws p.source_text wd p.destination_text j r) s d src c dst) × (raised_over (entries_from plan ws p.source_text wd p.destination_text j r) s src c ≡ 0)
      → Over p src c dst₀ (j + r) out raised
  over_run src c dst₀ j r raised dst out h left call =
      let e : n - j ≡ r + (n - (j + r)) = omega arith in
      let rest : entries_from plan ws p.source_text wd p.destination_text j (n - j) ≡ run j r ++ run (j + r) (n - (j + r)) =
      ap (λ (x : ℕ). entries_from plan ws p.source_text wd p.destination_text j x) e ∙ entries_split plan ws p.source_text wd p.destination_text j r (n - (j + r)) in
      let next = rw rest at left in (
        rw call.0 (sym (of_append s d src c (run j r) (run (j + r) (n - (j + r))) dst) ∙ next.0),
        omega (arith, next.1, over_append s src c (run j r) (run (j + r) (n - (j + r))), call.1),
      )

  -- no entries
  pub run_none : (i : ℕ) (src : List ℕ) (c : ℕ) (dst : List ℕ)
      → (dst ≡ each_of (entries_from plan ws p.source_text wd p.destination_text i 0) s d src c dst) × (raised_over (entries_from plan ws p.source_text wd p.destination_text i 0) s src c ≡ 0)
  unfolding entries_from each_of raised_over
  run_none i src c dst = (refl, refl)

-- ---- where a run begins, by the words of its first entry

module _ (plan : List ℕ) (i : ℕ) {e : PlanEntry} (q : e ≡ words_at plan i) where
  pub begins_inside : (bytes s d : ℕ) → (from_byte plan i + bytes ≤ s) × (to_byte plan i + bytes ≤ d) → (e.from + bytes ≤ s) × (e.to + bytes ≤ d)
  begins_inside bytes s d h = rw q h

  pub begins_piece : (bytes s d : ℕ) (src : List ℕ) (c : ℕ) (dst : List ℕ) {out : List ℕ} → out ≡ each_piece bytes e.to e.from s d src c dst
      → out ≡ each_piece bytes (to_byte plan i) (from_byte plan i) s d src c dst
  begins_piece bytes s d src c dst h = rw q at h
