-- One column, loaded, made and stored. Assumes nothing.
use mathlib.Core.Path.{◌≡◌, sym, ap, ◌∙◌}
use mathlib.Core.List.{List, [], ◌∷◌}
use Prim.Native.Nat.{ℕ, ◌+◌, ◌^◌, ◌≤◌, ◌<◌}
use native.Mathlib.Omega.{arith}
use lib.ListN.{get_or}
use Rattle.column_words.specs.declared.Words.{Words}
use Rattle.column_words.specs.Words.{make_by, count_by, Fits}
use Rattle.column_words.proofs.Made.{make_room}
use Rattle.blocks.specs.Blocks.{sum_to, each_record, container_in, merge_in, each_made, raised_made}
use Rattle.column_steps.proofs.Making.{none_outside}
use Rattle.blocks.proofs.Columns.{each_same, sum_same}

module _ (w : Words) (k : ℕ) (t : List ℕ) where
  -- t are the containers at byte a of k records
  module _ (a s : ℕ) (src : List ℕ) (loaded : (i : ℕ) → i < k → get_or t i 0 ≡ container_in w.source_order w.source_size a s src i) where
    pub column_raised : sum_to (λ i. count_by w (get_or t i 0)) k ≡ raised_made w a s src k
    column_raised =
        sum_same (λ i. count_by w (get_or t i 0)) (λ i. count_by w (container_in w.source_order w.source_size a s src i)) k (λ i h. ap (count_by w) (loaded i h))

    -- and u is what they become
    column_made : (u : List ℕ) → ((i : ℕ) → i < k → get_or u i 0 ≡ make_by w (get_or t i 0)) → (b d : ℕ) (dst : List ℕ)
        → each_record (λ i x. merge_in w.order w.size b w.keep (get_or u i 0) x) d k dst ≡ each_made w b a s d src k dst
    column_made u made b d dst =
        each_same (λ i x. merge_in w.order w.size b w.keep (get_or u i 0) x)
        (λ i x. merge_in w.order w.size b w.keep (make_by w (container_in w.source_order w.source_size a s src i)) x) d k dst
        (λ i h x. ap (λ (v : ℕ). merge_in w.order w.size b w.keep v x) (made i h ∙ ap (make_by w) (loaded i h)))

    -- stored, and counted before
    pub column_is : (u : List ℕ) (b d : ℕ) (dst : List ℕ) {out : List ℕ} {r : ℕ} → out ≡ each_record (λ i x. merge_in w.order w.size b w.keep (get_or u i 0) x) d k dst
        → ((i : ℕ) → i < k → get_or u i 0 ≡ make_by w (get_or t i 0)) × (r ≡ sum_to (λ i. count_by w (get_or t i 0)) k) × (r ≤ k)
        → (out ≡ each_made w b a s d src k dst) × (r ≡ raised_made w a s src k) × (r ≤ k)
    column_is u b d dst e made = (e ∙ column_made u made.0 b d dst, made.1 ∙ column_raised, made.2)

  -- there is room for the background's bits
  pub column_room : {v : ℕ} → Fits v w → (u : List ℕ) → ((i : ℕ) → i < k → get_or u i 0 ≡ make_by w (get_or t i 0)) → (i : ℕ) → i < k → get_or u i 0 + w.keep < 2 ^ v
  column_room f u made i h = rw (made i h) (make_room f (get_or t i 0))

-- ---- nothing is raised where each number is in range

module _ (w : Words) (low : w.low ≡ 0) (high : w.high ≡ w.mask) where
  count_none : (x : ℕ) → 0 ≡ count_by w x
  unfolding sum_to
  count_none x = let e : 0 + count_by w x ≡ count_by w x = omega arith in (none_outside w (x ∷ []) 1 low high).0 ∙ e

  pub none_raised : (a s : ℕ) (src : List ℕ) (k : ℕ) → 0 ≡ raised_made w a s src k
  none_raised a s src k =
      (none_outside w [] k low high).0
      ∙ sum_same (λ i. count_by w (get_or [] i 0)) (λ i. count_by w (container_in w.source_order w.source_size a s src i)) k
      (λ i h. sym (count_none (get_or [] i 0)) ∙ count_none (container_in w.source_order w.source_size a s src i))
