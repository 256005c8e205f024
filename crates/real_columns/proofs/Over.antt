-- The column of a plan's entry between a real and another leaf. Assumes nothing.
use Rattle.std.proofs.Common.{◌≡◌, ℕ, ◌+◌, ◌≤◌, false, List, get_or, ap, arith}
use Rattle.layout.specs.Layout.{Valid}
use Rattle.number.specs.declared.Fitted.{Fitted}
use Rattle.number.specs.Place.{stored}
use Rattle.table.specs.Table.{layout_at}
use Rattle.entry_code.specs.Code.{route_in}
use Rattle.records.specs.Record.{raises}
use Rattle.records.specs.Records.{record_at}
use Rattle.plans.specs.declared.PlanEntry.{PlanEntry}
use Rattle.plans.specs.PlanWords.{words_place, is_real, Pair, pair_becomes}
use Rattle.plans.specs.PlanEntries.{EntryReady}
use Rattle.plans.specs.LeafSteps.{real_becomes}
use Rattle.plans.proofs.LeafSteps.{real_becomes_lem, real_ready}
use Rattle.blocks.specs.Blocks.{each_pair, raised_pairs}
use Rattle.blocks.proofs.Columns.{each_same, sum_same}
use Rattle.real_columns.specs.Reals.{each_real, raised_reals}

module _ {f g : ℕ} {ws wd words : List ℕ} {place : ℕ} (p : Pair f g ws wd words place) (route : route_in (get_or words place 0) ≡ 3) where
  pair_real : (a : ℕ) (r : List ℕ) → real_becomes ws f wd g a r ≡ pair_becomes p a r
  pair_real a r = real_becomes_lem p (p.entry.plain (omega arith)) (p.entry.mixed route) a r

  pub reals_pairs : (b a s d : ℕ) (src : List ℕ) (k : ℕ) (dst : List ℕ) → each_real ws f wd g b a s d src k dst ≡ each_pair p b a s d src k dst
  reals_pairs b a s d src k dst =
      each_same (λ i x. stored (layout_at wd g) b (real_becomes ws f wd g a (record_at s i src)).raw x) (λ i x. stored (layout_at wd g) b (pair_becomes p a (record_at s i src)).raw x) d k dst
      (λ i h x. ap (λ (t : Fitted). stored (layout_at wd g) b t.raw x) (pair_real a (record_at s i src)))

  pub raised_reals_pairs : (a s : ℕ) (src : List ℕ) (k : ℕ) → raised_reals ws f wd g a s src k ≡ raised_pairs p a s src k
  raised_reals_pairs a s src k =
      sum_same (λ i. raises (real_becomes ws f wd g a (record_at s i src)).kind) (λ i. raises (pair_becomes p a (record_at s i src)).kind) k
      (λ i h. ap (λ (t : Fitted). raises t.kind) (pair_real a (record_at s i src)))

-- what its function asks for
pub reals_fit : {s d : ℕ} {e : PlanEntry} {j : ℕ} {ws wd words : List ℕ} → EntryReady s d e j ws wd words → route_in (get_or words (words_place j) 0) ≡ 3
    → Valid (layout_at ws e.source) × Valid (layout_at wd e.destination) × (is_real ws e.source ≡ false → (layout_at wd e.destination).precision ≡ 64)
    × (e.from + (layout_at ws e.source).size.0 ≤ s) × (e.to + (layout_at wd e.destination).size.0 ≤ d)
reals_fit {s} {e = e} {j = j} {ws = ws} {wd = wd} {words = words} r route =
    let h = real_ready s e.from e.source e.destination ws wd words (words_place j) r.pair (r.pair.entry.mixed route) r.read in
    (h.source, h.destination, h.real, r.read, r.write)
