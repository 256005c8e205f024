-- A number of at most 53 bits as a real: its bits alone give it, and nothing is raised. Assumes nothing.
use Rattle.std.proofs.Common.{◌≡◌, ℕ, zero, suc, ◌+◌, ◌-◌, ◌*◌, ◌/◌, ◌%◌, ◌^◌, ◌<◌, ◌≤◌, Bool, true, false, cond, eqb, List, get_or, refl, ap, ◌∙◌, ⊎_elim, mod-lt, zero-lt-suc, arith, pow_pos, pow_mono, eq-eqb, le-leb}
use borrow.Author.Tests.{lt-leb}
use lib.Bits.{bit_and, and_le_r}
use Rattle.number.specs.declared.Fitted.{Fitted}
use Rattle.number.specs.Number.{valued}
use Rattle.number.specs.Parts.{signed_by}
use Rattle.number.proofs.Range.{valued_low, valued_high}
use Rattle.reals.specs.Nearest.{highest, magnitude_bits}
use Rattle.reals.specs.Compare.{magnitude}
use Rattle.reals.specs.Convert.{int_to_real}
use Rattle.reals.proofs.Highest.{highest_is}
use Rattle.reals.proofs.Rounding.{over_or_within}
use Rattle.reals.proofs.Exact.{spare}
use Rattle.real_numbers.proofs.Leading.{highest_zero}
use Rattle.real_numbers.proofs.Reals.{real_exact}
use Rattle.records.specs.Record.{raises}
use Rattle.blocks.specs.Blocks.{sum_to}
use Rattle.real_columns.specs.Reals.{real_by}
use Rattle.real_columns.specs.Short.{first_below, short_real}
use Rattle.real_columns.proofs.Making.{Outcome}

spare_none : (n : ℕ) → n < 2 ^ 53 → spare n ≡ 0
spare_none zero l = rw highest_zero
spare_none (suc n) l =
    let h = highest_is 63 (suc n) (zero-lt-suc n) (omega arith) in
    ⊎_elim (λ o. absurd (omega (arith, pow_mono {i = 53} {j = highest 63 (suc n)} o, h.low))) (λ w. omega arith) (over_or_within 52 (highest 63 (suc n)))

exact : (n : ℕ) → n < 2 ^ 53 → eqb (n % 2 ^ spare n) 0 ≡ true
exact n l = rw (spare_none n l) (eq-eqb (n % 2 ^ 0) 0 (omega (arith, mod-lt n (pow_pos 0))))

-- by sign and magnitude
by_parts : (s : Bool) (d n : ℕ) → n ≡ magnitude (signed_by s d) → n < 2 ^ 53 → (cond s (2 ^ 63) 0 + magnitude_bits n ≡ (int_to_real (signed_by s d)).raw) × (0 ≡ (int_to_real (signed_by s d)).kind)
by_parts s d n e l =
    let is = real_exact s d n (magnitude_bits n) (cond s (2 ^ 63) 0 + magnitude_bits n) (eqb (n % 2 ^ spare n) 0) (e, omega arith) refl refl refl (exact n l) in
    (ap (λ (f : Fitted). f.raw) is, ap (λ (f : Fitted). f.kind) is)

short_is : (signed : Bool) (p raw : ℕ) → 1 ≤ p → p ≤ 53 → raw < 2 ^ p
    → (short_real (first_below signed p) (2 ^ p) raw ≡ (int_to_real (valued signed p raw)).raw) × (0 ≡ (int_to_real (valued signed p raw)).kind)
unfolding short_real
short_is false p raw some most h =
    let wide : 2 ^ p ≤ 2 ^ 53 = pow_mono {j = 53} most in
    rw (lt-leb (2 ^ p) raw h) (by_parts false raw raw refl (omega arith))
short_is true p raw some most h =
    let wide : 2 ^ p ≤ 2 ^ 53 = pow_mono {j = 53} most in
    ⊎_elim
    (λ low. rw (lt-leb (2 ^ (p - 1)) raw low, valued_low p raw low) (by_parts false raw raw refl (omega arith)))
    (λ high.
    let some = pow_pos (p - 1) in
    rw (le-leb (2 ^ (p - 1)) raw high, valued_high p raw high) (by_parts true (2 ^ p - suc raw) (2 ^ p - raw) (omega arith) (omega arith)))
    (over_or_within raw (2 ^ (p - 1)))

sum_none : (f : ℕ → ℕ) → ((i : ℕ) → 0 ≡ f i) → (k : ℕ) → 0 ≡ sum_to f k
unfolding sum_to
sum_none f h zero = refl
sum_none f h (suc k) = rw (← (h k), ← (sum_none f h k))

-- what the loop over them leaves
pub short_made : (shift mask : ℕ) (signed : Bool) (p up ones : ℕ) (t₀ t : List ℕ) (k : ℕ) {first all : ℕ} → 1 ≤ p → p ≤ 53 → mask ≡ 2 ^ p - 1 → first ≡ first_below signed p → all ≡ 2 ^ p
    → ((i : ℕ) → i < k → get_or t i 0 ≡ short_real first all (bit_and (get_or t₀ i 0 / 2 ^ shift) mask) * 2 ^ up + ones)
    → Outcome (λ j. real_by shift mask signed p (get_or t₀ j 0)) up ones t k 0
short_made shift mask signed p up ones t₀ t k some most hm hf ha h = (
  (λ j l. h j l ∙ ap (λ (x : ℕ). x * 2 ^ up + ones) (rw (hf, ha) (is j).0)),
  sum_none (λ j. raises (real_by shift mask signed p (get_or t₀ j 0)).kind) (λ j. ap raises (is j).1) k,
  omega arith,
)
  where
    is : (j : ℕ) → let raw = bit_and (get_or t₀ j 0 / 2 ^ shift) mask in
        (short_real (first_below signed p) (2 ^ p) raw ≡ (int_to_real (valued signed p raw)).raw) × (0 ≡ (int_to_real (valued signed p raw)).kind)
    is j = short_is signed p (bit_and (get_or t₀ j 0 / 2 ^ shift) mask) some most (omega (arith, and_le_r (get_or t₀ j 0 / 2 ^ shift) mask, pow_pos p))
