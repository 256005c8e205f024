-- A column of records without gaps. Assumes nothing.
use mathlib.Core.Path.{◌≡◌, sym, ap, ◌∙◌}
use mathlib.Core.List.{List}
use Prim.Native.Nat.{ℕ, ◌+◌, ◌*◌, ◌≤◌}
use native.Mathlib.Omega.{arith}
use lib.ListN.{length}
use Rattle.column_words.specs.declared.Words.{Words}
use Rattle.blocks.specs.Blocks.{each_made}

module _ (w : Words) {a b : ℕ} (source : w.source_size ≡ a) (size : w.size ≡ b) where
  pub dense_is : (src : List ℕ) (k : ℕ) (dst₀ dst : List ℕ) → dst ≡ each_made w 0 0 a b src k dst₀ → dst ≡ each_made w 0 0 w.source_size w.size src k dst₀
  dense_is src k dst₀ dst e =
      e ∙ ap (λ (s : ℕ). each_made w 0 0 s b src k dst₀) (sym source) ∙ ap (λ (d : ℕ). each_made w 0 0 w.source_size d src k dst₀) (sym size)

  pub dense_room : (k : ℕ) (src dst : List ℕ) → k * w.source_size ≤ length src → k * w.size ≤ length dst → (k * a ≤ length src) × (k * b ≤ length dst)
  dense_room k src dst h l = (rw source at h, rw size at l)

module _ (w : Words) (b a : ℕ) {s d : ℕ} (source : s ≡ w.source_size) (size : d ≡ w.size) (from : a + w.source_size ≤ s) (to : b + w.size ≤ d) where
  pub gapless_is : (src : List ℕ) (k : ℕ) (dst₀ dst : List ℕ) → dst ≡ each_made w 0 0 w.source_size w.size src k dst₀ → dst ≡ each_made w b a s d src k dst₀
  gapless_is src k dst₀ dst e =
      let first : 0 ≡ a = omega arith in
      let start : 0 ≡ b = omega arith in
      e ∙ ap (λ (x : ℕ). each_made w 0 0 x w.size src k dst₀) (sym source)
      ∙ ap (λ (x : ℕ). each_made w 0 0 s x src k dst₀) (sym size)
      ∙ ap (λ (x : ℕ). each_made w 0 x s d src k dst₀) first
      ∙ ap (λ (x : ℕ). each_made w x a s d src k dst₀) start

  pub gapless_room : (k : ℕ) (src dst : List ℕ) → k * s ≤ length src → k * d ≤ length dst → (k * w.source_size ≤ length src) × (k * w.size ≤ length dst)
  gapless_room k src dst h l = (rw source at h, rw size at l)
