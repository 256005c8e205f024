-- Blocks of records: how many have room, and the list that the lines of all of them make. Assumes nothing.
use mathlib.Core.Path.{◌≡◌, refl, ap, ◌∙◌}
use mathlib.Core.List.{List}
use Prim.Native.Nat.{ℕ, ◌+◌, ◌*◌, ◌-◌, ◌/◌, ◌≤◌, ◌<◌}
use native.Mathlib.Nat.{le_refl, le_trans, mul-le-mul_right, le-div_iff_mul-le, div-mul-le_self}
use native.Mathlib.Omega.{arith}
use lib.ListN.{length, length-append}
use Rattle.text.specs.Written.{Wrote}
use Rattle.text.proofs.Written.{wrote_then}
use Rattle.datatype.proofs.Matches.{size_some, size_most}
use Rattle.plans.specs.PlanWords.{Job}
use Rattle.differences.specs.Differences.{header}
use Rattle.comparing.specs.declared.Logs.{Logs}
use Rattle.comparing.specs.Comparing.{TwoLogs, text_of, text_between}
use Rattle.comparing.proofs.Between.{counted_on, text_is}
use Rattle.block_compare.proofs.Blocks.{start_counted, end_written}

-- ---- the end of a block whose records of d bytes are converted at once

module _ (from count d : ℕ) (some : 1 ≤ d) (most : d ≤ 4096) where
  one_fits : 1 ≤ 4096 / d
  one_fits = (le-div_iff_mul-le some).1 (omega arith)

  pub full_block : 4096 / d < count - from → (from < from + 4096 / d) × (from + 4096 / d ≤ count) × ((from + 4096 / d - from) * d ≤ 4096)
  full_block h =
      let e : from + 4096 / d - from ≡ 4096 / d = omega arith in
      (omega (arith, one_fits), omega arith, rw e (div-mul-le_self 4096 d))

  pub last_block : from < count → count - from ≤ 4096 / d → (from < count) × (count ≤ count) × ((count - from) * d ≤ 4096)
  last_block low h = (low, le_refl count, le_trans (mul-le-mul_right d h) (div-mul-le_self 4096 d))

-- ---- two logs behind the checks

job_some : {s d : ℕ} {plan : List ℕ} {n : ℕ} {ws wd words : List ℕ} → Job s d plan n ws wd words → 1 ≤ d
job_some j = rw j.destination_size (size_some j.destination j.destination_formed)

job_most : {s d : ℕ} {plan : List ℕ} {n : ℕ} {ws wd words : List ℕ} → Job s d plan n ws wd words → d ≤ 4096
job_most j = rw j.destination_size (size_most j.destination j.destination_formed)

module _ {x : Logs} {ss ws ds wd plan words : List ℕ} (first second : List ℕ) (g : TwoLogs x (length first) (length second) ss ws ds wd plan words) where
  pub second_some : 1 ≤ x.second_size
  second_some = job_some g.planned.job

  pub second_most : x.second_size ≤ 4096
  second_most = job_most g.planned.job

  -- ---- the whole list

  list_long : length (text_of g first second) ≡ 23 + length (text_between g first second 0 x.count)
  list_long = ap length (text_is first second g) ∙ length-append header (text_between g first second 0 x.count)

  pub start_listed : 23 ≡ 23 + length (text_between g first second 0 0)
  start_listed = omega (arith, start_counted first second g 0)

  pub listed_on : (i k len r : ℕ) → i ≤ k → len ≡ 23 + length (text_between g first second 0 i) → r ≡ length (text_between g first second i k)
      → len + r ≡ 23 + length (text_between g first second 0 k)
  listed_on i k len r low h n = omega (arith, h, counted_on first second g 0 i k (length (text_between g first second 0 i)) r (omega arith) low refl n)

  pub list_counted : (i len : ℕ) → i ≤ x.count → x.count ≤ i → len ≡ 23 + length (text_between g first second 0 i) → len ≡ length (text_of g first second)
  list_counted i len low high h = let e : x.count ≡ i = omega arith in omega (arith, list_long, h, ap (λ (n : ℕ). length (text_between g first second 0 n)) e)

  pub header_room : (n : ℕ) → length (text_of g first second) ≤ n → length header ≤ n
  header_room n h = omega (arith, h, list_long)

  module _ (list : List ℕ) (fits : length (text_of g first second) ≤ length list) (headed : List ℕ) (place : ℕ) (first-line : Wrote list 0 header headed place) where
    pub lines_room : place + length (text_between g first second 0 x.count) ≤ length headed
    lines_room = omega (arith, fits, list_long, first-line.ends, first-line.same)

    pub list_written : (i : ℕ) (after : List ℕ) (end : ℕ) → i ≤ x.count → x.count ≤ i → Wrote headed place (text_between g first second 0 i) after end
        → Wrote list 0 (text_of g first second) after end
    list_written i after end low high h =
        rw (text_is first second g)
        (wrote_then list 0 (header_room (length list) fits) first-line (end_written first second g 0 i x.count headed place after end low high h))
