-- The mark of a name, byte by byte, and what a note changes. Assumes nothing.
use mathlib.Core.Path.{◌≡◌, refl}
use mathlib.Core.List.{List, [], ◌∷◌}
use Prim.Native.Nat.{ℕ, zero, suc, ◌+◌, ◌-◌, ◌*◌, ◌%◌, ◌<◌, ◌≤◌}
use native.Mathlib.Nat.{not-suc-le-zero, mod-lt}
use native.Mathlib.Numerals.{sub-one}
use native.Mathlib.Omega.{arith}
use lib.ListN.{get_or}
use Rattle.table.specs.Table.{bytes_at}
use Rattle.name_marks.specs.Marks.{mark_from}

pub below : (h : ℕ) → h % 512 < 512
below h = mod-lt h (omega arith)

pub mark_small : (h : ℕ) (x : List ℕ) → h < 512 → mark_from h x < 512
unfolding mark_from
mark_small h [] g = g
mark_small h (b ∷ x) g = mark_small ((31 * h + b) % 512) x (below (31 * h + b))

module _ (t : List ℕ) (at : ℕ) (h : ℕ) where
  pub mark_none : (n : ℕ) → n ≤ 0 → mark_from h (bytes_at t at n) ≡ h
  unfolding mark_from bytes_at
  mark_none zero g = refl
  mark_none (suc n) g = absurd (not-suc-le-zero g)

  pub mark_more : (n : ℕ) {b : ℕ} → 0 < n → b ≡ get_or t at 0 → mark_from h (bytes_at t at n) ≡ mark_from ((31 * h + b) % 512) (bytes_at t (at + 1) (n - 1))
  unfolding mark_from bytes_at
  mark_more zero g e = absurd (not-suc-le-zero g)
  mark_more (suc n) g e = rw (e, sub-one) refl
