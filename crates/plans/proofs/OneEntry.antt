-- A plan of one entry, which is easy: what the numbers of its pair make of a record. Assumes nothing.
use mathlib.Core.Path.{◌≡◌, refl}
use mathlib.Core.List.{List}
use Prim.Native.Nat.{ℕ, ◌+◌, ◌≤◌, ◌<◌}
use native.Mathlib.Omega.{arith}
use lib.ListN.{get_or}
use Rattle.number.specs.Number.{number_at, fitted}
use Rattle.number.specs.Place.{stored}
use Rattle.table.specs.Table.{layout_at}
use Rattle.table.specs.Words.{Reads}
use Rattle.entry_code.specs.Code.{route_in}
use Rattle.easy.specs.Words.{EasyAt}
use Rattle.plans.specs.declared.PlanEntry.{PlanEntry}
use Rattle.records.specs.Plan.{written, raised_by}
use Rattle.plans.specs.PlanWords.{Ready, entries_of, words_place}
use Rattle.plans.specs.PlanEntries.{words_at, EntryReady}
use Rattle.plans.proofs.EasyLeaves.{easy_at, easy_became}
use Rattle.plans.proofs.Entries.{entry_ready, left_start, left_turn, left_end}

module _ {s d : ℕ} {plan : List ℕ} {n : ℕ} {ws wd words : List ℕ} (p : Ready s d plan n ws wd words) (single : n ≡ 1) (e : PlanEntry) (q : e ≡ words_at plan 0)
    {x o : ℕ} (rx : Reads (get_or words (words_place 0) 0) x) (ro : (o ≡ route_in x) × (o < 8)) (some : o ≡ 0 → ⊥) (low : o < 3) where
  one : EntryReady s d e 0 ws wd words
  one = entry_ready s d plan n ws wd words p 0 (omega arith) e q

  pub one_easy : EasyAt (layout_at ws e.source) (layout_at wd e.destination) words (words_place 0)
  one_easy = easy_at one refl rx ro some low

  pub one_read : e.from + (layout_at ws e.source).size.0 ≤ s
  one_read = one.read

  pub one_write : e.to + (layout_at wd e.destination).size.0 ≤ d
  one_write = one.write

  pub one_written : (src dst out : List ℕ)
      → out ≡ stored (layout_at wd e.destination) e.to (fitted (layout_at wd e.destination) (number_at (layout_at ws e.source) e.from src)).raw dst
      → (out ≡ written (entries_of p) src dst) × (0 ≡ raised_by (entries_of p) src)
  one_written src dst out h =
      left_end s d plan n ws wd words p src dst 1 0 out (omega arith)
      (left_turn s d plan n ws wd words p src dst 0 0 0 dst out (omega arith) (left_start s d plan n ws wd words p src dst) q
      (easy_became one refl rx ro some low src dst out h)
      refl)
