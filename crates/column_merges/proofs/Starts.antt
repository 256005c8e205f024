-- The loops that store a column, by the byte where record i begins. Assumes nothing.
use mathlib.Core.Path.{◌≡◌, ap, ◌∙◌}
use mathlib.Core.List.{List}
use Prim.Native.Nat.{ℕ, ◌+◌, ◌*◌, ◌-◌, ◌≤◌}
use native.Mathlib.Omega.{arith}
use borrow.Rule.Slice.PartMut.{put_mid}
use lib.Bits.{bit_and}
use lib.ListN.{length, get_or, take, drop}
use lib.Seq.{paste}
use Rattle.bits.specs.declared.Order.{Order}
use Rattle.bits.specs.Container.{container, contained}
use Rattle.loops.proofs.Lists.{row_next}
use Rattle.blocks.proofs.Turns.{merged, merge_turn, store_turn}

-- where the next record begins
pub next_start : (i d : ℕ) {y : ℕ} → y ≡ i * d → y + d ≡ (i + 1) * d
next_start i d h = omega (arith, row_next i d)

module _ (order : Order) (size b keep : ℕ) (t : List ℕ) (d i : ℕ) (dst : List ℕ) (low : i * d + d ≤ length dst) (fits : b + size ≤ d) {y : ℕ} (begins : y ≡ i * d) where
  -- what is lent from there on
  abbrev lent : ℕ → List ℕ
  lent k = take (length dst - k) (drop k dst)

  pub merge_start : (dst₀ e : List ℕ) (g c : ℕ) → dst ≡ merged order size b keep t d i dst₀ → g ≡ container order (take size (drop b (take (length dst - y) (drop y dst))))
      → c ≡ get_or t i 0 + bit_and g keep → e ≡ paste (take (length dst - y) (drop y dst)) b (contained order size c) size
      → put_mid y (length dst - y) dst e ≡ merged order size b keep t d (i + 1) dst₀
  merge_start dst₀ e g c h hg hc he =
      ap (λ (k : ℕ). put_mid k (length dst - k) dst e) begins
      ∙ merge_turn order size b keep t d i dst low fits dst₀ e g c h (hg ∙ ap (λ (k : ℕ). container order (take size (drop b (lent k)))) begins) hc
      (he ∙ ap (λ (k : ℕ). paste (lent k) b (contained order size c) size) begins)

  pub store_start : (dst₀ e : List ℕ) → keep ≡ 0 → dst ≡ merged order size b keep t d i dst₀
      → e ≡ paste (take (length dst - y) (drop y dst)) b (contained order size (get_or t i 0)) size
      → put_mid y (length dst - y) dst e ≡ merged order size b keep t d (i + 1) dst₀
  store_start dst₀ e none h he =
      ap (λ (k : ℕ). put_mid k (length dst - k) dst e) begins
      ∙ store_turn order size b keep t d i dst low fits dst₀ e none h (he ∙ ap (λ (k : ℕ). paste (lent k) b (contained order size (get_or t i 0)) size) begins)
