-- Records from one on and before another: what is known of those that are compared together, and of one. Assumes nothing.
use mathlib.Core.Path.{◌≡◌, sym, ap, ◌∙◌}
use mathlib.Core.List.{List, []}
use Prim.Native.Nat.{ℕ, ◌+◌, ◌*◌, ◌-◌, ◌≤◌, ◌<◌}
use native.Mathlib.Omega.{arith}
use lib.ListN.{length}
use Rattle.text.specs.Written.{Wrote}
use Rattle.text.proofs.Written.{wrote_none}
use Rattle.plans.specs.PlanWords.{Job}
use Rattle.comparing.specs.declared.Logs.{Logs}
use Rattle.comparing.specs.Comparing.{record_text, TwoLogs, text_between}
use Rattle.comparing.proofs.Between.{lent, rows_within, rows_lent, between_start, record_text_lem}

pub one_row : (i d n : ℕ) → d ≤ n → (i + 1 - i) * d ≤ n
one_row i d n h = let e : i + 1 - i ≡ 1 = omega arith in rw e (omega arith)

module _ {x : Logs} {ss ws ds wd plan words : List ℕ} (first second : List ℕ) (g : TwoLogs x (length first) (length second) ss ws ds wd plan words) where
  -- the records from one on and before another can be converted in n bytes
  pub alike_ready : (from to n : ℕ) → from ≤ to → to ≤ x.count → (to - from) * x.second_size ≤ n
      → Job x.first_size x.second_size plan x.entries ws wd words × (to - from ≤ 65536) × ((to - from) * x.first_size ≤ length (lent x.first_size from first))
      × ((to - from) * x.second_size ≤ length (lent x.second_size from second)) × ((to - from) * x.second_size ≤ n)
  alike_ready from to n low high fits = (
    g.planned.job,
    omega (arith, g.few),
    rows_lent x.first_size from to x.count first g.in_first low high,
    rows_lent x.second_size from to x.count second g.in_second low high,
    fits,
  )

  -- and lie inside both logs
  module _ (from to : ℕ) (low : from ≤ to) (high : to ≤ x.count) where
    pub block_first : from * x.first_size + (to - from) * x.first_size ≤ length first
    block_first = rows_within x.first_size from to x.count first g.in_first low high

    pub block_second : from * x.second_size + (to - from) * x.second_size ≤ length second
    block_second = rows_within x.second_size from to x.count second g.in_second low high

  -- ---- nothing is written of records that are alike

  module _ (from to : ℕ) (none : text_between g first second from to ≡ []) where
    pub none_counted : 0 ≡ length (text_between g first second from to)
    none_counted = sym (ap length none)

    pub none_written : (list : List ℕ) (at : ℕ) → Wrote list at (text_between g first second from to) list at
    none_written list at = rw none (wrote_none list at)

  -- ---- the lines of one record

  module _ (i : ℕ) (low : i < x.count) where
    abbrev text : List ℕ
    text = record_text i (lent x.first_size i first) (lent x.second_size i second) plan x.entries ss ws ds wd

    pub one_counted : (r : ℕ) → r ≡ length text → r ≡ length (text_between g first second i (i + 1))
    one_counted r h = h ∙ ap length (sym (record_text_lem first second g i low))

    pub one_room : (at n : ℕ) → at + length (text_between g first second i (i + 1)) ≤ n → at + length text ≤ n
    one_room at n h = rw (record_text_lem first second g i low) at h

    pub one_written : (list : List ℕ) (at : ℕ) (after : List ℕ) (end : ℕ) → Wrote list at text after end → Wrote list at (text_between g first second i (i + 1)) after end
    one_written list at after end h = rw (record_text_lem first second g i low) h

  -- ---- the lines from record `from` on, none yet and all

  pub start_counted : (from : ℕ) → 0 ≡ length (text_between g first second from from)
  start_counted from = sym (ap length (between_start first second g from))

  pub start_written : (from : ℕ) (list : List ℕ) (at : ℕ) → Wrote list at (text_between g first second from from) list at
  start_written from list at = rw (between_start first second g from) (wrote_none list at)

  pub end_counted : (from i to r : ℕ) → i ≤ to → to ≤ i → r ≡ length (text_between g first second from i) → r ≡ length (text_between g first second from to)
  end_counted from i to r low high h = let e : to ≡ i = omega arith in rw e h

  pub end_written : (from i to : ℕ) (list : List ℕ) (at : ℕ) (after : List ℕ) (end : ℕ) → i ≤ to → to ≤ i
      → Wrote list at (text_between g first second from i) after end → Wrote list at (text_between g first second from to) after end
  end_written from i to list at after end low high h = let e : to ≡ i = omega arith in rw e h
