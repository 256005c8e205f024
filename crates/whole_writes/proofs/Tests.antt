-- What the tests of a type's pads and of a plan's entries say. Assumes nothing.
use mathlib.Core.Path.{◌≡◌, refl, sym}
use mathlib.Core.List.{List}
use Prim.Native.Nat.{ℕ, zero, suc, ◌+◌, ◌*◌, ◌-◌, ◌^◌, ◌≤◌, ◌<◌}
use native.Mathlib.Omega.{arith}
use Rattle.table.specs.Table.{type_word, layout_at, pad_of}
use Rattle.table.specs.Words.{Reads}
use Rattle.column_words.specs.Fill.{kept_in, keep_of}
use Rattle.plans.specs.declared.PlanEntry.{PlanEntry}
use Rattle.plans.specs.PlanEntries.{words_at}
use Rattle.whole_writes.specs.Writes.{Anew, WritesFrom, WritesEach}

-- ---- one type

kept_none : (pad bits : ℕ) → (2 ≤ pad → bits ≡ 0) → kept_in (pad_of pad) bits ≡ 0
kept_none zero bits h = refl
kept_none (suc zero) bits h = refl
kept_none (suc (suc k)) bits h = h (omega arith)

module _ (w : List ℕ) (k : ℕ) {size offset precision below above : ℕ} (rs : Reads (type_word w k 1) size) (ro : Reads (type_word w k 3) offset)
    (rp : Reads (type_word w k 4) precision) (rb : Reads (type_word w k 5) below) (ra : Reads (type_word w k 6) above) where
  pub anew_is : (2 ≤ below → 0 ≡ offset) → (2 ≤ above → offset + precision ≡ 8 * size) → Anew w k size
  unfolding layout_at keep_of
  anew_is hb ha =
      let high : kept_in (pad_of above) (2 ^ (8 * size) - 2 ^ (offset + precision)) ≡ 0 = kept_none above _ (λ h. rw (ha h) (omega arith)) in
      let low : kept_in (pad_of below) (2 ^ offset - 1) ≡ 0 = kept_none below _ (λ h. rw (← (hb h)) refl) in
      record { size = sym rs.is; none = rw (← rs.is, ← ro.is, ← rp.is, ← rb.is, ← ra.is, high, low) refl }

-- ---- one entry more, in front

pub writes_more : (d : ℕ) (plan wd : List ℕ) (n i j at bytes : ℕ) {e : PlanEntry} → 0 < i → i ≤ n → j ≡ i - 1 → e ≡ words_at plan j → Anew wd e.destination bytes → e.to + bytes ≡ at
    → WritesFrom d plan wd i (n - i) at → WritesFrom d plan wd j (n - j) e.to
writes_more d plan wd n i j at bytes {e} some within ej q a ea rest =
    let more : n - j ≡ suc (n - i) = omega arith in
    let next : j + 1 ≡ i = omega arith in
    rw (more, q) (bytes, refl, rw q at a, rw (next, (rw q at ea)) rest)

-- all of them, from the first byte on
pub writes_all : (d : ℕ) (plan wd : List ℕ) (n : ℕ) {i at : ℕ} → i ≤ 0 → at ≡ 0 → WritesFrom d plan wd i (n - i) at → WritesEach d plan n wd
writes_all d plan wd n {i} {at} none begins h =
    let first : i ≡ 0 = omega arith in
    let all : n - i ≡ n = omega arith in
    rw (all, first, begins) at h
