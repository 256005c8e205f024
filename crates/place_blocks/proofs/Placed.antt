-- Turns of the loops over blocks, by the job of their plan: a call for k records from record i on. Assumes nothing.
use mathlib.Core.Path.{◌≡◌}
use mathlib.Core.List.{List}
use Prim.Native.Nat.{ℕ, ◌+◌, ◌*◌, ◌≤◌}
use lib.ListN.{length, take, drop}
use Rattle.datatype.proofs.Matches.{size_most}
use Rattle.records.specs.Plan.{plan_of}
use Rattle.plans.specs.PlanWords.{Ready, entries_of, Job}
use Rattle.loops.specs.Steps.{put, Up, Down}
use Rattle.blocks.specs.Blocks.{each_of, raised_over}
use Rattle.blocks.proofs.BlockTurns.{job_ready}
use Rattle.blocks.proofs.PlaceBlocks.{up_block, down_block}

pub destination_most : {s d : ℕ} {plan : List ℕ} {n : ℕ} {ws wd words : List ℕ} → Job s d plan n ws wd words → d ≤ 4096
destination_most j = rw j.destination_size (size_most j.destination j.destination_formed)

module _ {s d : ℕ} {plan : List ℕ} {n : ℕ} {ws wd words : List ℕ} (j : Job s d plan n ws wd words) where
  placed : (e a b buf : List ℕ) (at k r : ℕ)
      → ((t : Ready s d plan n ws wd words) → (e ≡ put at (k * d) (each_of (entries_of t) s d a k b) buf) × (r ≡ raised_over (entries_of t) s a k))
      → (e ≡ put at (k * d) (each_of (plan_of j.source j.destination) s d a k b) buf) × (r ≡ raised_over (plan_of j.source j.destination) s a k)
  placed e a b buf at k r call = simp j.entries at (call (job_ready j))

  module _ (c : ℕ) (buf₀ bg : List ℕ) (room : c * d ≤ length bg) (i k total raised : ℕ) (buf e : List ℕ) (within : i + k ≤ c) (same : length buf ≡ length buf₀)
      (call : (t : Ready s d plan n ws wd words)
      → (e ≡ put (i * d) (k * d) (each_of (entries_of t) s d (take (k * s) (drop (i * s) buf)) k (take (k * d) (drop (i * d) bg))) buf)
      × (raised ≡ raised_over (entries_of t) s (take (k * s) (drop (i * s) buf)) k)) where
    pub up_placed : c * s ≤ length buf₀ → d ≤ s → Up j.source j.destination s d c buf₀ bg i buf total
        → Up j.source j.destination s d c buf₀ bg (i + k) e (total + raised)
    up_placed h low up =
        up_block j.source j.destination j.source_formed j.destination_formed s d j.source_size j.destination_size c buf₀ bg room i k total raised buf e h low within same up
        (placed e (take (k * s) (drop (i * s) buf)) (take (k * d) (drop (i * d) bg)) buf (i * d) k raised call)

    pub down_placed : c * d ≤ length buf₀ → s ≤ d → Down j.source j.destination s d c buf₀ bg (i + k) buf total
        → Down j.source j.destination s d c buf₀ bg i e (total + raised)
    down_placed h low down =
        down_block j.source j.destination j.source_formed j.destination_formed s d j.source_size j.destination_size c buf₀ bg room i k total raised buf e h low within same down
        (placed e (take (k * s) (drop (i * s) buf)) (take (k * d) (drop (i * d) bg)) buf (i * d) k raised call)
