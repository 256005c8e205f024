-- A block of k records, leaf by leaf: a column is one entry of the plan in each of them. No meaning of document 01 stands here.
use Rattle.std.specs.Prelude.{List, [], ◌∷◌, ℕ, zero, suc, ◌+◌, ◌*◌, take, drop}
use Rattle.std.specs.Int.Bits.{bit_and}
use Rattle.std.proofs.Math.Seq.{paste}
use Rattle.bits.specs.declared.Order.{Order}
use Rattle.bits.specs.Container.{container, contained}
use Rattle.layout.specs.declared.Layout.{Layout}
use Rattle.number.specs.Number.{number_at, fitted}
use Rattle.number.specs.Place.{stored}
use Rattle.table.specs.Table.{layout_at}
use Rattle.datatype.specs.Datatype.{layout_of}
use Rattle.records.specs.Record.{raises}
use Rattle.records.specs.Records.{record_at}
use Rattle.records.specs.Plan.{Entry, becomes}
use Rattle.plans.specs.PlanWords.{Pair, pair_becomes}
use Rattle.loops.specs.Steps.{put}
use Rattle.column_words.specs.declared.Words.{Words}
use Rattle.column_words.specs.Words.{make_by, count_by}

-- dst with each of its first records of d bytes made anew, from its number and itself
unfoldable pub each_record : (ℕ → List ℕ → List ℕ) → ℕ → ℕ → List ℕ → List ℕ
each_record f d zero dst = dst
each_record f d (suc i) dst =
    let was = each_record f d i dst in
    put (i * d) d (f i (record_at d i was)) was

unfoldable pub sum_to : (ℕ → ℕ) → ℕ → ℕ
sum_to f zero = 0
sum_to f (suc k) = sum_to f k + f k

-- ---- the entries of a plan

-- the destination record x with the entry's leaf written, from the source record r
abbrev pub leaf_in : Entry → List ℕ → List ℕ → List ℕ
leaf_in e r x = stored (layout_of e.destination) e.to (becomes e r).raw x

-- one entry in k records of s bytes, over k records of d bytes
abbrev pub each_entry : Entry → ℕ → ℕ → List ℕ → ℕ → List ℕ → List ℕ
each_entry e s d src k dst = each_record (λ i x. leaf_in e (record_at s i src) x) d k dst

-- one entry after the other
unfoldable pub each_of : List Entry → ℕ → ℕ → List ℕ → ℕ → List ℕ → List ℕ
each_of [] s d src k dst = dst
each_of (e ∷ es) s d src k dst = each_of es s d src k (each_entry e s d src k dst)

-- how many of k records raise an exception in this entry, and in all entries
abbrev pub raised_each : Entry → ℕ → List ℕ → ℕ → ℕ
raised_each e s src k = sum_to (λ i. raises (becomes e (record_at s i src)).kind) k

unfoldable pub raised_over : List Entry → ℕ → List ℕ → ℕ → ℕ
raised_over [] s src k = 0
raised_over (e ∷ es) s src k = raised_each e s src k + raised_over es s src k

-- ---- a column of numbers, by words

-- the container of size bytes at byte a of record i
abbrev pub container_in : Order → ℕ → ℕ → ℕ → List ℕ → ℕ → ℕ
container_in order size a s src i = container order (take size (drop a (drop (i * s) src)))

-- the record x with the container of size bytes at byte b made of the number v and of its own bits under keep
abbrev pub merge_in : Order → ℕ → ℕ → ℕ → ℕ → List ℕ → List ℕ
merge_in order size b keep v x = paste x b (contained order size (v + bit_and (container order (take size (drop b x))) keep)) size

-- the container at byte a of each of k records, as one at byte b
abbrev pub each_made : Words → ℕ → ℕ → ℕ → ℕ → List ℕ → ℕ → List ℕ → List ℕ
each_made w b a s d src k dst =
    each_record (λ i x. merge_in w.order w.size b w.keep (make_by w (container_in w.source_order w.source_size a s src i)) x) d k dst

abbrev pub raised_made : Words → ℕ → ℕ → List ℕ → ℕ → ℕ
raised_made w a s src k = sum_to (λ i. count_by w (container_in w.source_order w.source_size a s src i)) k

-- the same between layouts l and m
abbrev pub each_number : Layout → Layout → ℕ → ℕ → ℕ → ℕ → List ℕ → ℕ → List ℕ → List ℕ
each_number l m b a s d src k dst = each_record (λ i x. stored m b (fitted m (number_at l a (record_at s i src))).raw x) d k dst

abbrev pub raised_numbers : Layout → Layout → ℕ → ℕ → List ℕ → ℕ → ℕ
raised_numbers l m a s src k = sum_to (λ i. raises (fitted m (number_at l a (record_at s i src))).kind) k

-- and between two types of the tables
abbrev pub each_pair : {f g : ℕ} {ws wd words : List ℕ} {place : ℕ} → Pair f g ws wd words place → ℕ → ℕ → ℕ → ℕ → List ℕ → ℕ → List ℕ → List ℕ
each_pair {f} {g} {ws} {wd} p b a s d src k dst = each_record (λ i x. stored (layout_at wd g) b (pair_becomes p a (record_at s i src)).raw x) d k dst

abbrev pub raised_pairs : {f g : ℕ} {ws wd words : List ℕ} {place : ℕ} → Pair f g ws wd words place → ℕ → ℕ → List ℕ → ℕ → ℕ
raised_pairs p a s src k = sum_to (λ i. raises (pair_becomes p a (record_at s i src)).kind) k
