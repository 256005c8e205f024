-- The column of one entry between two numbers, or two reals, is the column of its layouts. Assumes nothing.
use mathlib.Core.Path.{◌≡◌, ap}
use mathlib.Core.List.{List}
use Prim.Native.Nat.{ℕ, ◌+◌, ◌≤◌, ◌<◌}
use native.Mathlib.Omega.{arith}
use lib.ListN.{get_or}
use Rattle.layout.specs.declared.Layout.{Layout}
use Rattle.layout.specs.Layout.{Valid}
use Rattle.number.specs.Number.{number_at, fitted}
use Rattle.number.specs.Place.{stored}
use Rattle.table.specs.Table.{layout_at}
use Rattle.entry_code.specs.Code.{route_in}
use Rattle.records.specs.Record.{raises}
use Rattle.records.specs.Records.{record_at}
use Rattle.plans.specs.declared.PlanEntry.{PlanEntry}
use Rattle.plans.specs.PlanWords.{Pair, pair_becomes}
use Rattle.plans.specs.PlanEntries.{EntryReady}
use Rattle.plans.proofs.LeafSteps.{number_becomes, pair_valid}
use Rattle.blocks.specs.Blocks.{each_number, raised_numbers, each_pair, raised_pairs}
use Rattle.blocks.proofs.Columns.{each_same, sum_same}

module _ {f g : ℕ} {ws wd words : List ℕ} {place : ℕ} (p : Pair f g ws wd words place) (low : route_in (get_or words place 0) < 3) where
  pair_plain : (a : ℕ) (r : List ℕ)
      → ((fitted (layout_at wd g) (number_at (layout_at ws f) a r)).raw ≡ (pair_becomes p a r).raw) × ((fitted (layout_at wd g) (number_at (layout_at ws f) a r)).kind ≡ (pair_becomes p a r).kind)
  pair_plain a r = number_becomes p (p.entry.plain (omega arith)) (p.entry.alike low) a r

  module _ {l m : Layout} (el : l ≡ layout_at ws f) (em : m ≡ layout_at wd g) where
    pub numbers_pairs : (b a s d : ℕ) (src : List ℕ) (k : ℕ) (dst : List ℕ) → each_number l m b a s d src k dst ≡ each_pair p b a s d src k dst
    numbers_pairs b a s d src k dst =
        rw (el, em)
        (each_same (λ i x. stored (layout_at wd g) b (fitted (layout_at wd g) (number_at (layout_at ws f) a (record_at s i src))).raw x)
        (λ i x. stored (layout_at wd g) b (pair_becomes p a (record_at s i src)).raw x) d k dst
        (λ i h x. ap (λ (r : ℕ). stored (layout_at wd g) b r x) (pair_plain a (record_at s i src)).0))

    pub raised_pairs_lem : (a s : ℕ) (src : List ℕ) (k : ℕ) → raised_numbers l m a s src k ≡ raised_pairs p a s src k
    raised_pairs_lem a s src k =
        rw (el, em)
        (sum_same (λ i. raises (fitted (layout_at wd g) (number_at (layout_at ws f) a (record_at s i src))).kind) (λ i. raises (pair_becomes p a (record_at s i src)).kind) k
        (λ i h. ap raises (pair_plain a (record_at s i src)).1))

-- what the numbers ask of two layouts that were read
pub numbers_fit : {s d : ℕ} {e : PlanEntry} {j : ℕ} {ws wd words : List ℕ} {l m : Layout} → EntryReady s d e j ws wd words → l ≡ layout_at ws e.source → m ≡ layout_at wd e.destination
    → Valid l × Valid m × (e.from + l.size.0 ≤ s) × (e.to + m.size.0 ≤ d)
numbers_fit r el em = rw (el, em) ((pair_valid r.pair).0, (pair_valid r.pair).1, r.read, r.write)
