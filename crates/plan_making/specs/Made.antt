-- The plan between two types in the halves of the working table, as it is made once a call.
use Rattle.std.specs.Prelude.{◌≡◌, List, ℕ, ◌*◌, ◌≤◌, ◌<◌, length, get_or}
use Rattle.datatype.specs.Datatype.{Datatype, size}
use Rattle.table.specs.Table.{type_at}
use Rattle.entry_code.specs.Code.{route_in}
use Rattle.records.specs.Plan.{plan_of}
use Rattle.plans.specs.PlanWords.{entries_at, source_type_of, destination_type_of, words_place, EntryWords, NamesAt}

-- arrays of so many words have room for the plan to type k and for its words
pub record Room (ds wd : List ℕ) (k plan words : ℕ) : Type 0 where
  pub for_entries : 2 * size (type_at wd ds k) ≤ plan
  pub for_words : words_place (size (type_at wd ds k)) ≤ words
  pub most : words ≤ 65536

-- the plan to E, of n entries, and its words; the leaves of E are types of the table wd
pub record Made (ss ws : List ℕ) (i : ℕ) (ds wd : List ℕ) (E : Datatype) (plan : List ℕ) (n : ℕ) (words : List ℕ) : Type 0 where
  pub entries : entries_at plan n ws ss wd ds ≡ plan_of (type_at ws ss i) E
  pub room : 2 * n ≤ length plan
  pub most : n ≤ 4096
  pub long : words_place n ≤ length words
  pub entry : (e : ℕ) → e < n → EntryWords words (words_place e) ws ss wd ds (source_type_of plan e) (destination_type_of plan e)
  pub names : (e : ℕ) → e < n → 7 ≤ route_in (get_or words (words_place e) 0) → NamesAt words ws ss wd ds
