-- Numbers on their way between a real and another leaf, side by side: laws in the shape of what the loops need. Assumes nothing.
use Rattle.std.proofs.Common.{◌≡◌, ℕ, zero, suc, ◌+◌, ◌-◌, ◌*◌, ◌^◌, ◌<◌, ◌≤◌, List, length, get_or, set, refl, ap, ◌∙◌, mul-le-mul_right, arith, length-set, pow_pos}
use Rattle.number.specs.declared.Fitted.{Fitted}
use Rattle.records.specs.Record.{raises}
use Rattle.column_words.specs.declared.Words.{Words}
use Rattle.column_words.specs.Words.{Fits}
use Rattle.blocks.specs.Blocks.{sum_to}
use Rattle.blocks.proofs.Turns.{set_below, set_ahead, sum_start, sum_next}
use Rattle.blocks.proofs.Columns.{sum_same}
use Rattle.column_steps.proofs.Making.{Made, Counted}

pub some_raised : (kind : ℕ) → (kind ≡ 0 → ⊥) → (1 ≡ raises kind) × (1 ≤ 1)
some_raised zero h = absurd (h refl)
some_raised (suc kind) h = (refl, omega arith)

-- bits under a mask of p bits are p bits
pub under_mask : (mask p raw : ℕ) → raw ≤ mask → mask ≡ 2 ^ p - 1 → raw < 2 ^ p
under_mask mask p raw h e = omega (arith, pow_pos p)

-- bits that fit the destination's leave room for the background's
pub bits_room : (w : Words) → Fits 64 w → (p raw : ℕ) → w.into ≡ 2 ^ p - 1 → raw < 2 ^ p → raw * 2 ^ w.up + w.ones + w.keep < 2 ^ 64
bits_room w f p raw e h =
    let low : raw ≤ w.into = omega arith in
    let most : raw * 2 ^ w.up ≤ w.into * 2 ^ w.up = mul-le-mul_right (2 ^ w.up) low in
    omega (arith, f.sum)

pub place_fits : (w : Words) → Fits 64 w → (p raw : ℕ) → w.into ≡ 2 ^ p - 1 → raw < 2 ^ p → (w.up < 64) × (raw * 2 ^ w.up + w.ones < 2 ^ 64)
place_fits w f p raw e h = (f.up, omega (arith, bits_room w f p raw e h))

-- ---- what a loop leaves: k numbers as F says, in their place, and how many raise an exception

abbrev pub Outcome : (ℕ → Fitted) → ℕ → ℕ → List ℕ → ℕ → ℕ → Type 0
Outcome F up ones t k r = ((j : ℕ) → j < k → get_or t j 0 ≡ (F j).raw * 2 ^ up + ones) × (r ≡ sum_to (λ j. raises (F j).kind) k) × (r ≤ k)

pub outcome_same : (F G : ℕ → Fitted) (up ones : ℕ) (t : List ℕ) (k : ℕ) {r : ℕ} → ((j : ℕ) → j < k → F j ≡ G j) → Outcome F up ones t k r → Outcome G up ones t k r
outcome_same F G up ones t k e h = (
  (λ j l. h.0 j l ∙ ap (λ (f : Fitted). f.raw * 2 ^ up + ones) (e j l)),
  h.1 ∙ sum_same (λ j. raises (F j).kind) (λ j. raises (G j).kind) k (λ j l. ap (λ (f : Fitted). raises f.kind) (e j l)),
  h.2,
)

-- ---- its turns: the first i numbers are as F makes them, those from i on as they were, and exceptions counted

abbrev pub Turned : (ℕ → Fitted) → ℕ → ℕ → List ℕ → List ℕ → ℕ → ℕ → Type 0
Turned F up ones t₀ t i raised = Made (λ x. (F x).raw * 2 ^ up + ones) t₀ t i × Counted (λ x. raises (F x).kind) t₀ i raised

pub made_start : (g : ℕ → ℕ) (t : List ℕ) → Made g t t 0
made_start g t = (refl, (λ j h. absurd (omega arith)), (λ j h. refl))

pub made_next : (g : ℕ → ℕ) (t₀ t : List ℕ) (i : ℕ) {r : ℕ} → Made g t₀ t i → i < length t → r ≡ g (get_or t i 0) → Made g t₀ (set t i r) (i + 1)
made_next g t₀ t i {r} h l e =
    (simp length-set h.0, set_below (λ j. g (get_or t₀ j 0)) i t r l h.1 (e ∙ ap g (h.2 i (omega arith))), set_ahead t₀ t i r h.2)

module _ (F : ℕ → Fitted) (up ones : ℕ) (t₀ : List ℕ) where
  pub turned_start : Turned F up ones t₀ t₀ 0 0
  turned_start = (made_start (λ x. (F x).raw * 2 ^ up + ones) t₀, (sum_start (λ j. raises (F (get_or t₀ j 0)).kind), omega arith))

  pub turned_next : (t : List ℕ) (i raised : ℕ) {o r raw : ℕ} → Turned F up ones t₀ t i raised → i < length t → raw ≡ (F (get_or t i 0)).raw → o ≡ raises (F (get_or t i 0)).kind → o ≤ 1
      → r ≡ raw * 2 ^ up + ones → Turned F up ones t₀ (set t i r) (i + 1) (raised + o)
  turned_next t i raised {o} {r} {raw} h l hraw ho few hr =
      let was : get_or t i 0 ≡ get_or t₀ i 0 = h.0.2 i (omega arith) in (
        made_next (λ x. (F x).raw * 2 ^ up + ones) t₀ t i h.0 l (hr ∙ ap (λ (x : ℕ). x * 2 ^ up + ones) hraw),
        (sum_next (λ j. raises (F (get_or t₀ j 0)).kind) i raised o h.1.0 (ho ∙ ap (λ (x : ℕ). raises (F x).kind) was), omega (arith, h.1.1)),
      )

  pub turned_end : (t : List ℕ) {i count raised : ℕ} → i ≡ count → Turned F up ones t₀ t i raised → Outcome (λ j. F (get_or t₀ j 0)) up ones t count raised
  turned_end t end h = rw (← end) (h.0.1, h.1.0, h.1.1)
