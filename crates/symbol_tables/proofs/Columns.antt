-- A column by the table of a pair of enums is the column of the pair. Assumes nothing.
use mathlib.Core.Path.{◌≡◌, sym, ap, ◌∙◌}
use mathlib.Core.List.{List}
use Prim.Native.Nat.{ℕ, ◌+◌, ◌-◌, ◌*◌, ◌/◌, ◌^◌, ◌≤◌, ◌<◌}
use native.Mathlib.Nat.{mod-lt}
use native.Mathlib.Omega.{arith}
use lib.Bits.{bit_and, and_mask}
use lib.ListN.{length, get_or, take, drop, length-drop, take-append-drop}
use lib.Pow.{pow_pos}
use lib.Seq.{paste, length-take-le}
use Rattle.bits.specs.Container.{container, contained, field}
use Rattle.layout.specs.declared.Layout.{Layout}
use Rattle.number.specs.Place.{place, raw_at, stored}
use Rattle.table.specs.Table.{layout_at}
use Rattle.entry_code.specs.Code.{route_in}
use Rattle.records.specs.Record.{raises}
use Rattle.records.specs.Records.{record_at}
use Rattle.plans.specs.PlanWords.{translated_code, Pair, pair_becomes}
use Rattle.plans.specs.LeafSteps.{code_bits}
use Rattle.plans.proofs.LeafSteps.{Agrees, leaf_layout, enum_converted, pair_valid}
use Rattle.loops.proofs.Lists.{row_within}
use Rattle.loops.proofs.Fronts.{place_front}
use Rattle.column_words.specs.declared.Words.{Words}
use Rattle.column_words.specs.Fill.{ones_of, keep_of}
use Rattle.column_words.specs.Words.{words_of}
use Rattle.column_words.proofs.Made.{merged_is}
use Rattle.blocks.specs.Blocks.{each_record, sum_to, container_in, merge_in, each_pair, raised_pairs}
use Rattle.blocks.proofs.Columns.{each_same, sum_same}
use Rattle.symbol_columns.specs.Tables.{raw_by, out_in, none_in, symbol_by, missing_by}
use Rattle.symbol_tables.specs.Symbols.{TableOf}

module _ {f g : ℕ} {ws wd words : List ℕ} {k : ℕ} (p : Pair f g ws wd words k) (enum : 4 ≤ route_in (get_or words k 0)) (table : List ℕ)
    (is : TableOf table ws p.source_text wd p.destination_text f g) where
  abbrev l : Layout
  l = layout_at ws f

  abbrev m : Layout
  m = layout_at wd g

  -- ---- a number

  raw_is : (x : ℕ) → raw_by (words_of l m) x ≡ field l.offset.0 l.precision x
  unfolding words_of
  raw_is x = and_mask (x / 2 ^ l.offset.0) l.precision

  raw_lt : (a : ℕ) (r : List ℕ) → raw_at l a r < 2 ^ l.precision
  raw_lt a r = mod-lt (container l.order (place l a r) / 2 ^ l.offset.0) (pow_pos l.precision)

  becomes : (a : ℕ) (r : List ℕ) → Agrees (code_bits wd m.precision (translated_code ws p.source_text wd p.destination_text f g (raw_at l a r))) (pair_becomes p a r)
  becomes a r =
      rw (leaf_layout ws p.source_text f) (enum_converted ws p.source_text wd p.destination_text f g p.destination (p.entry.enum enum) (raw_at l a r))

  -- the container of the leaf at byte a of the record r becomes the pair's
  pub symbol_is : (a : ℕ) (r : List ℕ) → symbol_by table (words_of l m) (container l.order (place l a r)) ≡ (pair_becomes p a r).raw * 2 ^ m.offset.0 + ones_of m
  unfolding symbol_by words_of
  symbol_is a r =
      ap (λ (o : ℕ). o * 2 ^ m.offset.0 + ones_of m)
      (ap (out_in table (2 ^ m.precision - 1)) (raw_is (container l.order (place l a r))) ∙ is.out (raw_at l a r) (raw_lt a r) ∙ (becomes a r).0)

  pub missing_is : (a : ℕ) (r : List ℕ) → missing_by table (words_of l m) (container l.order (place l a r)) ≡ raises (pair_becomes p a r).kind
  unfolding missing_by
  missing_is a r = ap (none_in table) (raw_is (container l.order (place l a r))) ∙ is.none (raw_at l a r) (raw_lt a r) ∙ ap raises (becomes a r).1

  -- ---- the records of a block

  module _ (a s : ℕ) (src : List ℕ) (read : a + l.size.0 ≤ s) where
    module _ (i : ℕ) (row : i * s + s ≤ length src) where
      -- the container that is read from record i on is that of record i
      same_container : container_in l.order l.size.0 a s src i ≡ container l.order (place l a (record_at s i src))
      same_container =
          let long : length (record_at s i src) ≡ s = length-take-le s (drop (i * s) src) (rw length-drop (omega arith)) in
          ap (λ (x : List ℕ). container l.order (place l a x)) (sym (take-append-drop s (drop (i * s) src)))
          ∙ ap (container l.order) (place_front l a (record_at s i src) (drop s (drop (i * s) src)) (rw long read))

      missing_here : missing_by table (words_of l m) (container_in l.order l.size.0 a s src i) ≡ raises (pair_becomes p a (record_at s i src)).kind
      missing_here = ap (missing_by table (words_of l m)) same_container ∙ missing_is a (record_at s i src)

      merge_here : (b : ℕ) (x : List ℕ)
          → merge_in m.order m.size.0 b (keep_of m) (symbol_by table (words_of l m) (container_in l.order l.size.0 a s src i)) x
          ≡ stored m b (pair_becomes p a (record_at s i src)).raw x
      merge_here b x =
          let h : ℕ = container m.order (take m.size.0 (drop b x)) in
          let r : ℕ = (pair_becomes p a (record_at s i src)).raw in
          let made : symbol_by table (words_of l m) (container_in l.order l.size.0 a s src i) ≡ r * 2 ^ m.offset.0 + ones_of m =
          ap (symbol_by table (words_of l m)) same_container ∙ symbol_is a (record_at s i src) in
          ap (λ (c : List ℕ). paste x b c m.size.0)
          (ap (λ (c : ℕ). contained m.order m.size.0 (c + bit_and h (keep_of m))) made ∙ merged_is m (pair_valid p).1 h r)

    module _ {w : Words} (hw : w ≡ words_of l m) (n : ℕ) (rows : n * s ≤ length src) where
      row : (i : ℕ) → i < n → i * s + s ≤ length src
      row i h = omega (arith, row_within s h)

      pub symbols_pairs : (b d : ℕ) (dst : List ℕ)
          → each_record (λ i x. merge_in w.order w.size b w.keep (symbol_by table w (container_in w.source_order w.source_size a s src i)) x) d n dst
          ≡ each_pair p b a s d src n dst
      unfolding words_of
      symbols_pairs b d dst =
          rw hw
          (each_same (λ i x. merge_in m.order m.size.0 b (keep_of m) (symbol_by table (words_of l m) (container_in l.order l.size.0 a s src i)) x)
          (λ i x. stored m b (pair_becomes p a (record_at s i src)).raw x) d n dst (λ i h x. merge_here i (row i h) b x))

      pub missing_pairs : sum_to (λ i. missing_by table w (container_in w.source_order w.source_size a s src i)) n ≡ raised_pairs p a s src n
      unfolding words_of
      missing_pairs =
          rw hw
          (sum_same (λ i. missing_by table (words_of l m) (container_in l.order l.size.0 a s src i)) (λ i. raises (pair_becomes p a (record_at s i src)).kind) n
          (λ i h. missing_here i (row i h)))
