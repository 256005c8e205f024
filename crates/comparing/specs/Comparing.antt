-- What the functions that compare two logs promise, by the entries of a plan. No meaning of document 02 stands here: that is in crate differences.
use Rattle.std.specs.Prelude.{◌≡◌, true, false, Option, Some, None, List, [], ◌∷◌, ◌++◌, ℕ, ◌+◌, ◌*◌, ◌-◌, ◌≤◌, ◌<◌, length, ℤ}
use Rattle.number.specs.declared.Number.{Number}
use Rattle.number.specs.Parts.{meaning}
use Rattle.datatype.specs.Datatype.{Leaf, leaf_size}
use Rattle.datatype.specs.WellFormed.{WellFormedLeaf}
use Rattle.records.specs.Leaf.{number_in}
use Rattle.records.specs.Plan.{Entry}
use Rattle.plans.specs.declared.PlanEntry.{PlanEntry}
use Rattle.plans.specs.PlanWords.{leaf_of_type, entries_at, Job}
use Rattle.plans.specs.PlanEntries.{words_at}
use Rattle.differences.specs.Same.{same_in}
use Rattle.differences.specs.Differences.{Difference, of_leaf, in_records, differences, lines, shown}
use Rattle.comparing.specs.declared.Logs.{Logs}
use Rattle.comparing.specs.declared.Differing.{Differing}

-- ---- one leaf

-- r says of the number z of leaf x and the number w of leaf y whether they differ, and which they are where they do
abbrev pub Says : Leaf → Leaf → ℤ → ℤ → Option Differing → Type 0
Says x y z w None = same_in x y z w ≡ true
Says x y z w (Some d) = (same_in x y z w ≡ false) × (meaning d.first ≡ z) × (meaning d.second ≡ w)

-- the entry e between well-formed leaves of the halves ws and wd beside the texts ss and ds, inside records of s and of d bytes
pub record EntryFormed (s d : ℕ) (e : PlanEntry) (ss ws ds wd : List ℕ) : Type 0 where
  pub source : WellFormedLeaf (leaf_of_type ws ss e.source)
  pub destination : WellFormedLeaf (leaf_of_type wd ds e.destination)
  pub read : e.from + leaf_size (leaf_of_type ws ss e.source) ≤ s
  pub write : e.to + leaf_size (leaf_of_type wd ds e.destination) ≤ d

-- r says it of the leaves of entry e, in the records p and q
abbrev pub EntrySays : PlanEntry → List ℕ → List ℕ → List ℕ → List ℕ → List ℕ → List ℕ → Option Differing → Type 0
EntrySays e ss ws ds wd p q r =
    let x = leaf_of_type ws ss e.source in
    let y = leaf_of_type wd ds e.destination in
    Says x y (number_in x e.from p) (number_in y e.to q) r

-- the difference of two numbers in the leaf at byte b of record i
abbrev pub difference_of : ℕ → ℕ → Number → Number → Difference
difference_of i b m n = record { index = i; at = b; first = meaning m; second = meaning n }

-- the line of entry e in the records p and q, which are record i of the two logs: nothing where its numbers are the same
unfoldable pub entry_text : ℕ → List ℕ → List ℕ → PlanEntry → List ℕ → List ℕ → List ℕ → List ℕ → List ℕ
entry_text i p q e ss ws ds wd = lines (of_leaf i e.to p q e.from (leaf_of_type ws ss e.source) (leaf_of_type wd ds e.destination))

-- ---- one record: p and q are record i of the two logs

abbrev pub of_entry : ℕ → List ℕ → List ℕ → Entry → List Difference
of_entry i p q e = of_leaf i e.to p q e.from e.source e.destination

unfoldable pub by_entries : List Entry → ℕ → List ℕ → List ℕ → List Difference
by_entries [] i p q = []
by_entries (e ∷ es) i p q = of_entry i p q e ++ by_entries es i p q

-- the first n entries of a plan, each between well-formed leaves, inside records of s and of d bytes
pub record EntriesFormed (s d : ℕ) (plan : List ℕ) (n : ℕ) (ss ws ds wd : List ℕ) : Type 0 where
  pub room : 2 * n ≤ length plan
  pub most : n ≤ 4096
  pub each : (i : ℕ) → i < n → EntryFormed s d (words_at plan i) ss ws ds wd

-- their lines
unfoldable pub record_text : ℕ → List ℕ → List ℕ → List ℕ → ℕ → List ℕ → List ℕ → List ℕ → List ℕ → List ℕ
record_text i p q plan n ss ws ds wd = lines (by_entries (entries_at plan n ws ss wd ds) i p q)

-- ---- all records

-- the plan of two logs, whose sheets are ss and ds
pub record Planned (x : Logs) (ss ws ds wd plan words : List ℕ) : Type 0 where
  pub job : Job x.first_size x.second_size plan x.entries ws wd words
  pub first_text : job.source_text ≡ ss
  pub second_text : job.destination_text ≡ ds

-- of two logs of so many bytes, which have room for the records
pub record TwoLogs (x : Logs) (first second : ℕ) (ss ws ds wd plan words : List ℕ) : Type 0 where
  pub planned : Planned x ss ws ds wd plan words
  pub few : x.count ≤ 65536
  pub in_first : x.count * x.first_size ≤ first
  pub in_second : x.count * x.second_size ≤ second

-- the list that a call writes
abbrev pub text_of : {x : Logs} {a b : ℕ} {ss ws ds wd plan words : List ℕ} → TwoLogs x a b ss ws ds wd plan words → List ℕ → List ℕ → List ℕ
text_of {x = x} g first second =
    shown (differences g.planned.job.source g.planned.job.destination x.count first second)

-- its lines of the records from i on and before record k
unfoldable pub text_between : {x : Logs} {a b : ℕ} {ss ws ds wd plan words : List ℕ} → TwoLogs x a b ss ws ds wd plan words → List ℕ → List ℕ → ℕ → ℕ → List ℕ
text_between g first second i k = lines (in_records g.planned.job.source g.planned.job.destination first second i (k - i))
