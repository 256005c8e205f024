-- A record whose plan repeats is so many records of a part of the plan. Assumes nothing.
use mathlib.Core.Path.{◌≡◌, refl, sym, ap, subst, ◌∙◌}
use mathlib.Core.List.{List, [], ◌∷◌, ◌++◌}
use Prim.Native.Nat.{ℕ, zero, suc, ◌+◌, ◌*◌, ◌≤◌, ◌<◌}
use native.Mathlib.Nat.{suc-mul, zero-mul, mul_assoc, mul-le-mul_right, le_of_eq, le_refl, le_trans}
use native.Mathlib.Omega.{arith}
use lib.ListN.{length, drop, length-drop, drop_of_length-le}
use Rattle.layout.specs.declared.Layout.{Layout}
use Rattle.datatype.specs.Datatype.{Leaf}
use Rattle.table.specs.Table.{layout_at, leaf_of_type}
use Rattle.records.specs.Records.{record_at}
use Rattle.records.specs.Plan.{Entry, written, raised_by, Sound, AllSound}
use Rattle.plans.specs.PlanWords.{to_byte, from_byte, source_type_of, destination_type_of, entry_at, entries_from, entries_at, Ready, entries_of}
use Rattle.plans.proofs.LeafSteps.{leaf_layout}
use Rattle.plans.proofs.Entries.{sound_at}
use Rattle.loops.proofs.Lists.{row_within}
use Rattle.blocks.specs.Blocks.{each_record, each_of, sum_to, raised_over}
use Rattle.blocks.proofs.Columns.{by_records, record_of, record_shift, record_room, Keeps, each_length, each_at, written_length, columns_written, columns_behind, columns_length, columns_raised, sum_same}
use Rattle.symbol_slots.specs.Tables.{TablesKept, Columned}
use Rattle.block_parts.specs.Parts.{SameWords, InParts}
use Rattle.block_parts.proofs.Shifts.{moved, moved_all, shifted_written, shifted_raised}

-- ---- lists of entries

written_append : (es fs : List Entry) (r x : List ℕ) → written (es ++ fs) r x ≡ written fs r (written es r x)
unfolding written
written_append [] fs r x = refl
written_append (e ∷ es) fs r x = written_append es fs r _

raised_append : (es fs : List Entry) (r : List ℕ) → raised_by (es ++ fs) r ≡ raised_by es r + raised_by fs r
unfolding raised_by
raised_append [] fs r = omega arith
raised_append (e ∷ es) fs r = rw (raised_append es fs r) (omega arith)

module _ (plan ws ts wd td : List ℕ) where
  entries_split : (i x y : ℕ) → entries_from plan ws ts wd td i (x + y) ≡ entries_from plan ws ts wd td i x ++ entries_from plan ws ts wd td (i + x) y
  unfolding entries_from
  entries_split i zero y =
      let e : 0 + y ≡ y = omega arith in
      let f : i + 0 ≡ i = omega arith in
      rw (e, f)
  entries_split i (suc x) y =
      let e : suc x + y ≡ suc (x + y) = omega arith in
      let f : i + suc x ≡ i + 1 + x = omega arith in
      rw (e, f) (ap (λ (es : List Entry). entry_at plan ws ts wd td i ∷ es) (entries_split (i + 1) x y))

  all_sound : (a b i k : ℕ) → ((j : ℕ) → i ≤ j → j < i + k → Sound a b (entry_at plan ws ts wd td j)) → AllSound a b (entries_from plan ws ts wd td i k)
  unfolding entries_from
  all_sound a b i zero f = tt
  all_sound a b i (suc k) f = (f i (omega arith) (omega arith), all_sound a b (i + 1) k (λ j g h. f j (omega arith) (omega arith)))

-- ---- record q of record j

part_of : (m b j q : ℕ) (l : List ℕ) → q < m → j * (m * b) + m * b ≤ length l → record_at b q (record_at (m * b) j l) ≡ record_at b (j * m + q) l
part_of m b j q l h room =
    let e : j * (m * b) ≡ j * m * b = sym (mul_assoc j m b) in
    record_of b m q (drop (j * (m * b)) l) h (rw length-drop (omega arith)) ∙ rw e (record_shift b (j * m) q l)

-- ---- sums

pub sum_split : (f : ℕ → ℕ) (x y : ℕ) → sum_to f (x + y) ≡ sum_to f x + sum_to (λ j. f (x + j)) y
unfolding sum_to
sum_split f x zero = let e : x + 0 ≡ x = omega arith in rw e (omega arith)
sum_split f x (suc y) = let e : x + suc y ≡ suc (x + y) = omega arith in rw e (rw (sum_split f x y) (omega arith))

sum_parts : (f : ℕ → ℕ) (m k : ℕ) → sum_to (λ i. sum_to (λ q. f (i * m + q)) m) k ≡ sum_to f (k * m)
unfolding sum_to
sum_parts f m zero = rw zero-mul
sum_parts f m (suc k) = rw (suc-mul k m, sum_split f (k * m) m, sum_parts f m k)

-- ---- a word that grows by b from each part to the next

steps : (f : ℕ → ℕ) (e b n : ℕ) → ((i : ℕ) → i + e < n → f (i + e) ≡ f i + b) → (q i : ℕ) → i + q * e < n → f (i + q * e) ≡ f i + q * b
steps f e b n g zero i h =
    let z : i + 0 * e ≡ i = rw zero-mul (omega arith) in
    rw (z, zero-mul) (omega arith)
steps f e b n g (suc q) i h =
    let w : suc q * e ≡ q * e + e = suc-mul q e in
    let v : suc q * b ≡ q * b + b = suc-mul q b in
    let z : i + suc q * e ≡ i + q * e + e = omega arith in
    rw z (omega (arith, g (i + q * e) (omega arith), steps f e b n g q i (omega arith)))

alike : (f : ℕ → Leaf) (e n : ℕ) → ((i : ℕ) → i + e < n → f (i + e) ≡ f i) → (q i : ℕ) → i + q * e < n → f (i + q * e) ≡ f i
alike f e n g zero i h = let z : i + zero * e ≡ i = rw zero-mul (omega arith) in ap f z
alike f e n g (suc q) i h =
    let z : i + suc q * e ≡ i + q * e + e = rw suc-mul (omega arith) in
    ap f z ∙ g (i + q * e) (rw z at h) ∙ alike f e n g q i (omega (arith, rw z at h))

-- types that have the same words are the same leaf
leaf_same : (w t : List ℕ) (x y : ℕ) → SameWords w x y → leaf_of_type w t x ≡ leaf_of_type w t y
unfolding leaf_of_type layout_at
leaf_same w t x y h =
    rw (
      h 0 (omega arith),
      h 1 (omega arith),
      h 2 (omega arith),
      h 3 (omega arith),
      h 4 (omega arith),
      h 5 (omega arith),
      h 6 (omega arith),
      h 7 (omega arith),
      h 9 (omega arith),
      h 10 (omega arith),
    )

-- ---- the entries of part q are those of the first, moved

module _ {m a b e s d : ℕ} {plan : List ℕ} {n : ℕ} {ws wd : List ℕ} (parts : InParts m a b e s d plan n ws wd) where
  pub part_few : e ≤ n
  part_few = omega (arith, parts.entries, row_within e parts.some)

  module _ (ts td : List ℕ) where
    abbrev first : List Entry
    first = entries_from plan ws ts wd td 0 e

    entry_moved : (q i : ℕ) → i + q * e < n → entry_at plan ws ts wd td (i + q * e) ≡ moved (q * b) (q * a) (entry_at plan ws ts wd td i)
    entry_moved q i h =
        rw (
          steps (to_byte plan) e b n parts.to q i h,
          steps (from_byte plan) e a n parts.from q i h,
          alike (λ j. leaf_of_type ws ts (source_type_of plan j)) e n (λ j l. leaf_same ws ts (source_type_of plan (j + e)) (source_type_of plan j) (parts.sources j l)) q i h,
          alike (λ j. leaf_of_type wd td (destination_type_of plan j)) e n (λ j l. leaf_same wd td (destination_type_of plan (j + e)) (destination_type_of plan j) (parts.destinations j l)) q i h,
        )

    entries_moved : (q : ℕ) → q < m → (k j : ℕ) → j + k ≤ e → entries_from plan ws ts wd td (j + q * e) k ≡ moved_all (q * b) (q * a) (entries_from plan ws ts wd td j k)
    unfolding entries_from moved_all
    entries_moved q g zero j h = refl
    entries_moved q g (suc k) j h =
        let z : j + q * e + 1 ≡ j + 1 + q * e = omega arith in
        rw (z, entry_moved q j (omega (arith, parts.entries, row_within e g)), entries_moved q g k (j + 1) (omega arith))

    part_moved : (q : ℕ) → q < m → entries_from plan ws ts wd td (0 + q * e) e ≡ moved_all (q * b) (q * a) (entries_from plan ws ts wd td 0 e)
    part_moved q g = entries_moved q g e 0 (omega arith)

    -- ---- one record

    module _ (sound : AllSound a b (entries_from plan ws ts wd td 0 e)) (r : List ℕ) (reads : m * a ≤ length r) where
      keeps : Keeps (λ j y. written first (record_at a j r) y) b
      keeps j y h = written_length a b first (record_at a j r) y sound h

      some_written : (x : List ℕ) → m * b ≤ length x → (q : ℕ) → q ≤ m
          → written (entries_from plan ws ts wd td 0 (q * e)) r x ≡ each_record (λ j y. written first (record_at a j r) y) b q x
      unfolding each_record written entries_from
      some_written x fits zero h = rw zero-mul
      some_written x fits (suc q) h =
          let w : suc q * e ≡ q * e + e = suc-mul q e in
          let low : q * b + b ≤ m * b = row_within b h in
          let was : List ℕ = each_record (λ j y. written first (record_at a j r) y) b q x in
          let same : length was ≡ length x = each_length (λ j y. written first (record_at a j r) y) b keeps x q (omega arith) in
          rw (w, entries_split plan ws ts wd td 0 (q * e) e, written_append (entries_from plan ws ts wd td 0 (q * e)) (entries_from plan ws ts wd td (0 + q * e) e) r x, some_written x fits q (omega arith), part_moved q h)
          (shifted_written a b (q * b) (q * a) r (omega (arith, row_within a h)) first sound was (omega arith))

      some_raised : (q : ℕ) → q ≤ m → raised_by (entries_from plan ws ts wd td 0 (q * e)) r ≡ sum_to (λ j. raised_by first (record_at a j r)) q
      unfolding sum_to raised_by entries_from
      some_raised zero h = rw zero-mul
      some_raised (suc q) h =
          let w : suc q * e ≡ q * e + e = suc-mul q e in
          rw (w, entries_split plan ws ts wd td 0 (q * e) e, raised_append (entries_from plan ws ts wd td 0 (q * e)) (entries_from plan ws ts wd td (0 + q * e) e) r, some_raised q (omega arith), part_moved q h)
          (ap (λ (z : ℕ). sum_to (λ j. raised_by first (record_at a j r)) q + z) (shifted_raised a b (q * b) (q * a) r (omega (arith, row_within a h)) first sound))

    -- ---- k records

    module _ (sound : AllSound a b (entries_from plan ws ts wd td 0 e)) (src : List ℕ) (k : ℕ) (reads : k * (m * a) ≤ length src) where
      abbrev all : List Entry
      all = entries_from plan ws ts wd td 0 (m * e)

      here : (j : ℕ) → j < k → (q : ℕ) → q < m → record_at a q (record_at (m * a) j src) ≡ record_at a (j * m + q) src
      here j h q g = part_of m a j q src g (omega (arith, row_within (m * a) h))

      source_room : (j : ℕ) → j < k → m * a ≤ length (record_at (m * a) j src)
      source_room j h = le_of_eq (sym (record_room (m * a) k j src h reads))

      all_raised : raised_over all (m * a) src k ≡ raised_over first a src (k * m)
      all_raised =
          columns_raised (m * a) src k all
          ∙ sum_same (λ j. raised_by all (record_at (m * a) j src)) (λ j. sum_to (λ q. raised_by first (record_at a (j * m + q) src)) m) k
          (λ j h. some_raised sound (record_at (m * a) j src) (source_room j h) m (le_refl m)
          ∙ sum_same (λ q. raised_by first (record_at a q (record_at (m * a) j src))) (λ q. raised_by first (record_at a (j * m + q) src)) m (λ q g. ap (raised_by first) (here j h q g)))
          ∙ sum_parts (λ t. raised_by first (record_at a t src)) m k
          ∙ sym (columns_raised a src (k * m) first)

      module _ (whole : AllSound (m * a) (m * b) (entries_from plan ws ts wd td 0 (m * e))) (dst : List ℕ) (room : k * (m * b) ≤ length dst) where
        rooms : k * m * b ≤ length dst
        rooms = rw (mul_assoc k m b) room

        abbrev out : List ℕ
        out = each_of first a b src (k * m) dst

        out_length : length (each_of first a b src (k * m) dst) ≡ length dst
        out_length = columns_length a b src (k * m) first dst sound rooms

        out_room : k * (m * b) ≤ length (each_of first a b src (k * m) dst)
        out_room = rw out_length room

        record_parts : (j : ℕ) → j < k → written all (record_at (m * a) j src) (record_at (m * b) j dst) ≡ record_at (m * b) j (each_of first a b src (k * m) dst)
        record_parts j h =
            let r : List ℕ = record_at (m * a) j src in
            let x : List ℕ = record_at (m * b) j dst in
            let lx : length x ≡ m * b = record_room (m * b) k j dst h room in
            let fits : m * b ≤ length x = le_of_eq (sym lx) in
            let lo : length (record_at (m * b) j out) ≡ m * b = record_room (m * b) k j out h out_room in
            let kept : Keeps (λ q y. written first (record_at a q r) y) b = keeps sound r (source_room j h) in
            let f : List ℕ = each_record (λ q y. written first (record_at a q r) y) b m x in
            let lf : length f ≡ length x = each_length (λ q y. written first (record_at a q r) y) b kept x m fits in
            some_written sound r (source_room j h) x fits m (le_refl m)
            ∙ by_records b m f (record_at (m * b) j out)
            (λ q g.
            let t : j * m + q < k * m = omega (arith, row_within m h) in
            let rows : j * (m * b) + m * b ≤ k * (m * b) = row_within (m * b) h in
            each_at (λ i y. written first (record_at a i r) y) b kept x m fits q g
            ∙ rw (here j h q g, part_of m b j q dst g (omega arith)) (sym (columns_written a b src (k * m) first dst sound rooms (j * m + q) t))
            ∙ sym (part_of m b j q out g (omega (arith, out_length))))
            (drop_of_length-le f {i = m * b} (omega arith) ∙ sym (drop_of_length-le (record_at (m * b) j out) {i = m * b} (omega arith)))

        all_each : each_of all (m * a) (m * b) src k dst ≡ each_of first a b src (k * m) dst
        all_each =
            by_records (m * b) k (each_of all (m * a) (m * b) src k dst) out (λ j h. columns_written (m * a) (m * b) src k all dst whole room j h ∙ record_parts j h)
            (columns_behind (m * a) (m * b) src k all dst whole room ∙ sym (rw (mul_assoc k m b) at (columns_behind a b src (k * m) first dst sound rooms)))

    -- by the plan's own number of entries
    parts_raised : AllSound a b (entries_from plan ws ts wd td 0 e) → (src : List ℕ) (k : ℕ) → k * s ≤ length src
        → raised_over (entries_at plan n ws ts wd td) s src k ≡ raised_over (entries_at plan e ws ts wd td) a src (k * m)
    parts_raised sound src k reads = rw (parts.source, parts.entries) (all_raised sound src k (rw parts.source at reads))

    parts_each : AllSound a b (entries_from plan ws ts wd td 0 e) → AllSound s d (entries_at plan n ws ts wd td) → (src : List ℕ) (k : ℕ) → k * s ≤ length src
        → (dst : List ℕ) → k * d ≤ length dst → each_of (entries_at plan n ws ts wd td) s d src k dst ≡ each_of (entries_at plan e ws ts wd td) a b src (k * m) dst
    parts_each sound whole src k reads dst room =
        rw (parts.source, parts.destination, parts.entries)
        (all_each sound src k (rw parts.source at reads) (rw (parts.source, parts.destination, parts.entries) at whole) dst (rw parts.destination at room))

-- ---- a plan that is ready

module _ {m a b e s d : ℕ} {plan : List ℕ} {n : ℕ} {ws wd : List ℕ} (parts : InParts m a b e s d plan n ws wd) {words : List ℕ} (p : Ready s d plan n ws wd words) where
  part_sound : AllSound a b (entries_from plan ws p.source_text wd p.destination_text 0 e)
  part_sound =
      let ts : List ℕ = p.source_text in
      let td : List ℕ = p.destination_text in
      all_sound plan ws ts wd td a b 0 e (λ j g h.
      let one : Sound s d (entry_at plan ws ts wd td j) = sound_at plan ws ts wd td s d n 0 j p.sound g (omega (arith, part_few parts)) in
      record {
        source = one.source;
        destination = one.destination;
        read = subst (λ (l : Layout). from_byte plan j + l.size.0 ≤ a) (sym (leaf_layout ws ts (source_type_of plan j))) (parts.read j (omega arith));
        write = subst (λ (l : Layout). to_byte plan j + l.size.0 ≤ b) (sym (leaf_layout wd td (destination_type_of plan j))) (parts.write j (omega arith));
      })

  pub part_ready : Ready a b plan e ws wd words
  part_ready =
      let few : e ≤ n = part_few parts in
      record {
        source_text = p.source_text;
        destination_text = p.destination_text;
        room = omega (arith, p.room);
        sound = part_sound;
        source_rows = λ i h. p.source_rows i (omega arith);
        destination_rows = λ i h. p.destination_rows i (omega arith);
        most = omega (arith, p.most);
        long = omega (arith, p.long);
        entry = λ i h. p.entry i (omega arith);
        names = λ i h. p.names i (omega arith);
      }

  module _ (tables : List ℕ) where
    pub part_columned : Columned tables plan n words → Columned tables plan e words
    part_columned f i h = f i (omega (arith, part_few parts))

    pub part_kept : TablesKept tables ws p.source_text wd p.destination_text → TablesKept tables ws part_ready.source_text wd part_ready.destination_text
    unfolding part_ready
    part_kept kept = kept

    pub grouped_each : Columned tables plan n words → TablesKept tables ws p.source_text wd p.destination_text
        → (src : List ℕ) (k r : ℕ) → k * s ≤ length src → (dst out : List ℕ) → k * d ≤ length dst
        → ((v : List ℕ) (t : Ready a b plan e ws wd v) → Columned tables plan e v → TablesKept tables ws t.source_text wd t.destination_text
        → (out ≡ each_of (entries_of t) a b src (k * m) dst) × (r ≡ raised_over (entries_of t) a src (k * m)))
        → (out ≡ each_of (entries_of p) s d src k dst) × (r ≡ raised_over (entries_of p) s src k)
    unfolding part_ready
    grouped_each f kept src k r reads dst out room call =
        let made = call words part_ready (part_columned f) kept in (
          made.0 ∙ sym (parts_each parts p.source_text p.destination_text part_sound p.sound src k reads dst room),
          made.1 ∙ sym (parts_raised parts p.source_text p.destination_text part_sound src k reads),
        )

-- ---- products

module _ {m a b e s d : ℕ} {plan : List ℕ} {n : ℕ} {ws wd : List ℕ} (parts : InParts m a b e s d plan n ws wd) (k : ℕ) where
  pub parts_few : k ≤ 65536 → k * m ≤ 268435456
  parts_few h = le_trans (mul-le-mul_right m h) (omega (arith, parts.few))

  pub source_rows_lem : k * m * a ≡ k * s
  source_rows_lem = rw parts.source (mul_assoc k m a)

  pub destination_rows_lem : k * m * b ≡ k * d
  destination_rows_lem = rw parts.destination (mul_assoc k m b)
