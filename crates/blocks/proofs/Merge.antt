-- A column by words is the column of its two layouts. Assumes nothing.
use mathlib.Core.Path.{◌≡◌, sym, ap, ◌∙◌}
use mathlib.Core.List.{List}
use Prim.Native.Nat.{ℕ, ◌+◌, ◌*◌, ◌^◌, ◌≤◌, ◌<◌}
use native.Mathlib.Omega.{arith}
use lib.Bits.{bit_and}
use lib.ListN.{length, take, drop, length-drop, take-append-drop}
use lib.Seq.{paste, length-take-le}
use Rattle.bits.specs.Container.{container, contained}
use Rattle.layout.specs.declared.Layout.{Layout}
use Rattle.layout.specs.Layout.{Valid}
use Rattle.number.specs.Number.{number_at, fitted}
use Rattle.number.specs.Place.{place, stored}
use Rattle.records.specs.Record.{raises}
use Rattle.records.specs.Records.{record_at}
use Rattle.loops.proofs.Lists.{row_within}
use Rattle.loops.proofs.Fronts.{place_front}
use Rattle.column_words.specs.declared.Words.{Words}
use Rattle.column_words.specs.Fill.{ones_of, keep_of}
use Rattle.column_words.specs.Words.{words_of, make_by, count_by}
use Rattle.column_words.proofs.Made.{make_is, count_is, merged_is}
use Rattle.blocks.specs.Blocks.{container_in, merge_in, each_made, raised_made, each_number, raised_numbers}
use Rattle.blocks.proofs.Columns.{each_same, sum_same}

module _ (l m : Layout) (v : Valid l) (u : Valid m) (a s : ℕ) (src : List ℕ) (read : a + l.size.0 ≤ s) where
  module _ (i : ℕ) (row : i * s + s ≤ length src) where
    -- the container that is read from record i on is that of record i
    same_container : container_in l.order l.size.0 a s src i ≡ container l.order (place l a (record_at s i src))
    same_container =
        let long : length (record_at s i src) ≡ s = length-take-le s (drop (i * s) src) (rw length-drop (omega arith)) in
        ap (λ (x : List ℕ). container l.order (place l a x)) (sym (take-append-drop s (drop (i * s) src)))
        ∙ ap (container l.order) (place_front l a (record_at s i src) (drop s (drop (i * s) src)) (rw long read))

    count_here : count_by (words_of l m) (container_in l.order l.size.0 a s src i) ≡ raises (fitted m (number_at l a (record_at s i src))).kind
    count_here = ap (count_by (words_of l m)) same_container ∙ count_is l m v u (container l.order (place l a (record_at s i src)))

    merge_here : (b : ℕ) (x : List ℕ)
        → merge_in m.order m.size.0 b (keep_of m) (make_by (words_of l m) (container_in l.order l.size.0 a s src i)) x ≡ stored m b (fitted m (number_at l a (record_at s i src))).raw x
    merge_here b x =
        let g : ℕ = container m.order (take m.size.0 (drop b x)) in
        let r : ℕ = (fitted m (number_at l a (record_at s i src))).raw in
        let made : make_by (words_of l m) (container_in l.order l.size.0 a s src i) ≡ r * 2 ^ m.offset.0 + ones_of m =
        ap (make_by (words_of l m)) same_container ∙ make_is l m v u (container l.order (place l a (record_at s i src))) in
        ap (λ (c : List ℕ). paste x b c m.size.0)
        (ap (λ (c : ℕ). contained m.order m.size.0 (c + bit_and g (keep_of m))) made ∙ merged_is m u g r)

  -- ---- all records of a block

  module _ {w : Words} (hw : w ≡ words_of l m) (k : ℕ) (rows : k * s ≤ length src) where
    row : (i : ℕ) → i < k → i * s + s ≤ length src
    row i h = omega (arith, row_within s h)

    pub made_numbers : (b d : ℕ) (dst : List ℕ) → each_made w b a s d src k dst ≡ each_number l m b a s d src k dst
    unfolding words_of
    made_numbers b d dst =
        rw hw
        (each_same (λ i x. merge_in m.order m.size.0 b (keep_of m) (make_by (words_of l m) (container_in l.order l.size.0 a s src i)) x)
        (λ i x. stored m b (fitted m (number_at l a (record_at s i src))).raw x) d k dst (λ i h x. merge_here i (row i h) b x))

    pub made_raised : raised_made w a s src k ≡ raised_numbers l m a s src k
    unfolding words_of
    made_raised =
        rw hw
        (sum_same (λ i. count_by (words_of l m) (container_in l.order l.size.0 a s src i)) (λ i. raises (fitted m (number_at l a (record_at s i src))).kind) k
        (λ i h. count_here i (row i h)))
