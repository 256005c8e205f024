-- What the functions that make and read the entries of a plan promise, and the answer of a scan. No meaning of document 01 stands here.
use Rattle.std.specs.Prelude.{◌≡◌, Bool, cond, ◌&&◌, Option, Some, None, List, [], ◌∷◌, ℕ, ◌+◌, ◌*◌, ◌≤◌, ◌<◌, eqb, get_or, length}
use Rattle.layout.specs.declared.Layout.{Layout}
use Rattle.datatype.specs.WellFormed.{WellFormedLeaf}
use Rattle.table.specs.Table.{layout_at}
use Rattle.table.specs.Records.{order_code, flag_code}
use Rattle.entry_code.specs.Code.{packed, route_in}
use Rattle.plans.specs.declared.PlanEntry.{PlanEntry}
use Rattle.plans.specs.declared.LeafException.{LeafException}
use Rattle.records.specs.Plan.{Raised}
use Rattle.records.specs.Plan.Raised.{nowhere, at}
use Rattle.easy.specs.Easy.{shift_of, easy_words}
use Rattle.plans.specs.PlanWords.{leaf_of_type, RowsWithin, is_real, one_real, to_byte, from_byte, source_type_of, destination_type_of, words_place, EntryWords, NamesAt, Pair}

abbrev pub words_at : List ℕ → ℕ → PlanEntry
words_at plan i = record { to = to_byte plan i; from = from_byte plan i; source = source_type_of plan i; destination = destination_type_of plan i }

abbrev pub raising_of : Raised → Option LeafException
raising_of nowhere = None
raising_of (at b kind given) = Some (record { byte = b; kind = kind; given = given })

-- entry i, which is e, for a source record of s bytes and a destination record of d bytes
pub record EntryReady (s d : ℕ) (e : PlanEntry) (i : ℕ) (ws wd words : List ℕ) : Type 0 where
  pub pair : Pair e.source e.destination ws wd words (words_place i)
  pub read : e.from + (layout_at ws e.source).size.0 ≤ s
  pub write : e.to + (layout_at wd e.destination).size.0 ≤ d
  pub few : i < 4096
  pub room : words_place i + 4 ≤ length words

-- ---- the words of entries are put

-- the leaves of types s and d are well formed, and their rows among the table's 256
pub record PairFormed (ws ts wd td : List ℕ) (s d : ℕ) : Type 0 where
  pub source : WellFormedLeaf (leaf_of_type ws ts s)
  pub destination : WellFormedLeaf (leaf_of_type wd td d)
  pub source_rows : RowsWithin ws s
  pub destination_rows : RowsWithin wd d

-- those of an entry from layout l to layout m, of which one is a real's, and the source's or not: where m has no bits beside its number
abbrev pub whole_words : Layout → Layout → Bool → List ℕ
whole_words l m real =
    packed 3 (shift_of l.order l.size.0 l.offset.0) l.precision m.size.0 (order_code m.order) m.precision
    ∷ (1 + order_code l.order) ∷ flag_code real ∷ flag_code (cond real m.signed l.signed) ∷ []

-- and for any m: the route alone where m has such bits
unfoldable pub real_words : Layout → Layout → Bool → List ℕ
real_words l m real = cond (eqb m.offset.0 0 && eqb m.precision (8 * m.size.0)) (whole_words l m real) (3 ∷ 0 ∷ 0 ∷ 0 ∷ [])

-- those of an entry to a type that is no enum
unfoldable pub plain_words : List ℕ → ℕ → List ℕ → ℕ → List ℕ
plain_words ws s wd d = cond (one_real ws s wd d) (real_words (layout_at ws s) (layout_at wd d) (is_real ws s)) (easy_words (layout_at ws s) (layout_at wd d))

-- the words of an entry, whose span lies between `start` and `free`
pub record Standing (words : List ℕ) (k start free : ℕ) (ws ts wd td : List ℕ) (s d : ℕ) : Type 0 where
  pub entry : EntryWords words k ws ts wd td s d
  pub bounds : 4 ≤ route_in (get_or words k 0) → route_in (get_or words k 0) < 7 → (start ≤ get_or words (k + 3) 0) × (get_or words (k + 3) 0 + get_or words (k + 2) 0 ≤ free)

-- those of one entry, from word k on, put into `before`: words below k and those from behind them up to `free` are as they were, and spans now end at `next`
pub record EntryPut (before : List ℕ) (k start free : ℕ) (ws ts wd td : List ℕ) (s d : ℕ) (after : List ℕ) (next : ℕ) : Type 0 where
  pub here : Standing after k start next ws ts wd td s d
  pub grows : free ≤ next
  pub below : (j : ℕ) → j < k → get_or after j 0 ≡ get_or before j 0
  pub between : (j : ℕ) → k + 4 ≤ j → j < free → get_or after j 0 ≡ get_or before j 0
  pub long : length after ≡ length before

-- those of the first n entries of a plan
pub record EntriesPut (before plan : List ℕ) (n : ℕ) (ws ts wd td after : List ℕ) : Type 0 where
  pub each : (i : ℕ) → i < n → EntryWords after (words_place i) ws ts wd td (source_type_of plan i) (destination_type_of plan i)
  pub long : length after ≡ length before

-- the ids of names, put where one of n entries wants them; the words behind the ids are as they were
pub record NamesPut (before : List ℕ) (n : ℕ) (ws ts wd td after : List ℕ) : Type 0 where
  pub names : (i : ℕ) → i < n → 7 ≤ route_in (get_or after (words_place i) 0) → NamesAt after ws ts wd td
  pub above : (j : ℕ) → 512 ≤ j → get_or after j 0 ≡ get_or before j 0
  pub long : length after ≡ length before
