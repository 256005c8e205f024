-- One number by the table: the turns of a search by halves, and what it and an entry of the span come to. Assumes nothing.
use Rattle.std.proofs.Common.{◌≡◌, ℕ, zero, suc, ◌+◌, ◌-◌, ◌/◌, ◌%◌, ◌^◌, ◌<◌, ◌≤◌, Bool, true, false, cond, ◌&&◌, eqb, ltb, leb, List, get_or, sym, refl, ap, ◌∙◌, mod-eq_of_lt, arith, pow_pos, le-ltb, lt-ltb, eq-eqb, ne_eqb, le-leb, leb-true}
use native.Mathlib.Nat.{two-pow-succ}
use borrow.Author.Tests.{lt-leb}
use Rattle.symbol_columns.specs.Tables.{step_up, key_below, key_for, is_key, span_entry, out_in, none_in}

-- ---- a step

module _ (key raw step : ℕ) where
  pub not_above : key ≤ raw → step ≡ cond (leb key raw) step 0
  not_above h = simp (le-leb key raw h)

  pub is_above : raw < key → 0 ≡ cond (leb key raw) step 0
  is_above h = simp (lt-leb key raw h)

step_le : (step : ℕ) (t : Bool) → cond t step 0 ≤ step
step_le step true = omega arith
step_le step false = omega arith

step_ends : (at step : ℕ) (t : Bool) → at + cond t step 0 ≡ cond t (at + step) at
step_ends at step true = refl
step_ends at step false = omega arith

module _ (table : List ℕ) (raw step at keys : ℕ) (n : keys ≡ get_or table 3 0) where
  pub step_room : {up : ℕ} → up ≡ cond (leb (get_or table (16 + (at + step)) 0) raw) step 0 → up ≤ step
  step_room e = rw e (step_le step (leb (get_or table (16 + (at + step)) 0) raw))

  pub step_in : {up : ℕ} → at + step < keys → up ≡ cond (leb (get_or table (16 + (at + step)) 0) raw) step 0 → (at + up ≡ step_up table raw step at) × (at + up ≤ at + step)
  step_in l e =
      let is : ltb (at + step) (get_or table 3 0) ≡ true = lt-ltb (at + step) (get_or table 3 0) (omega arith) in
      (rw (is, e) (step_ends at step (leb (get_or table (16 + (at + step)) 0) raw)), omega (arith, step_room e))

  pub step_past : keys ≤ at + step → (at ≡ step_up table raw step at) × (at ≤ at + step)
  step_past l =
      let is : ltb (at + step) (get_or table 3 0) ≡ false = le-ltb (at + step) (get_or table 3 0) (omega arith) in
      (rw is refl, omega arith)

-- ---- the turns: from `at` on k steps are left, the first of them so long

abbrev pub Finding : List ℕ → ℕ → ℕ → ℕ → Type 0
Finding table raw step at = (k : ℕ) × (step ≡ 2 ^ k / 2) × (at + 2 ^ k ≤ 256) × (key_below table raw k at ≡ key_for table raw)

module _ (table : List ℕ) (raw : ℕ) where
  pub finding_start : Finding table raw 128 0
  finding_start = (8, refl, omega arith, refl)

  half_of : (k : ℕ) → 2 ^ suc k / 2 ≡ 2 ^ k
  half_of k = let e : 2 ^ suc k ≡ 2 ^ k + 2 ^ k = two-pow-succ k in rw e (omega arith)

  module _ (step at : ℕ) (some : 0 < step) where
    pub finding_room : Finding table raw step at → at + step < 256
    finding_room (zero, e, room, same) = absurd (omega arith)
    finding_room (suc k, e, room, same) = omega (arith, two-pow-succ k, half_of k, pow_pos k)

    pub finding_turn : {r : ℕ} → Finding table raw step at → (r ≡ step_up table raw step at) × (r ≤ at + step) → Finding table raw (step / 2) r
    unfolding key_below
    finding_turn (zero, e, room, same) h = absurd (omega arith)
    finding_turn {r} (suc k, e, room, same) h =
        let long : step ≡ 2 ^ k = e ∙ half_of k in
        let is : r ≡ step_up table raw (2 ^ k) at = h.0 ∙ ap (λ (x : ℕ). step_up table raw x at) long in
        (k, ap (λ (x : ℕ). x / 2) long, omega (arith, two-pow-succ k), ap (key_below table raw k) is ∙ same)

  pub finding_end : (step at : ℕ) → step ≤ 0 → Finding table raw step at → (at ≡ key_for table raw) × (at < 256)
  unfolding key_below
  finding_end step at none (zero, e, room, same) = (same, omega arith)
  finding_end step at none (suc k, e, room, same) = absurd (omega (arith, half_of k, pow_pos k))

-- ---- what is found

module _ (key raw same other : ℕ) where
  pub is_same : key ≡ raw → same ≡ cond (eqb key raw) same other
  is_same e = simp (eq-eqb key raw e)

  pub is_other : (key ≡ raw → ⊥) → other ≡ cond (eqb key raw) same other
  is_other h = simp (ne_eqb key raw h)

module _ (table : List ℕ) (keys q raw : ℕ) (halves : get_or table 1 0 ≡ 0) (n : keys ≡ get_or table 3 0) (at : q ≡ key_for table raw) where
  among_keys : q < keys → is_key table raw ≡ eqb (get_or table (16 + q) 0) raw
  among_keys l = rw (← at, lt-ltb q (get_or table 3 0) (omega arith))

  past_keys : keys ≤ q → is_key table raw ≡ false
  past_keys h = rw (← at, le-ltb q (get_or table 3 0) (omega arith))

  pub out_among : (into : ℕ) {r : ℕ} → q < keys → r ≡ cond (eqb (get_or table (16 + q) 0) raw) (get_or table (272 + q) 0) into → r ≡ out_in table into raw
  unfolding out_in
  out_among into l e = e ∙ rw (halves, among_keys l, at)

  pub out_past : (into : ℕ) → keys ≤ q → into ≡ out_in table into raw
  unfolding out_in
  out_past into h = rw (halves, past_keys h)

  pub none_among : {r : ℕ} → q < keys → r ≡ cond (eqb (get_or table (16 + q) 0) raw) 0 1 → r ≡ none_in table raw
  unfolding none_in
  none_among l e = e ∙ rw (halves, among_keys l)

  pub none_past : keys ≤ q → 1 ≡ none_in table raw
  unfolding none_in
  none_past h = rw (halves, past_keys h)

-- ---- a place in the span

module _ (raw low entries k : ℕ) (lr : raw < 2 ^ 64) (ll : low + entries ≤ 2 ^ 64) (lk : k < 2 ^ 64) (e : (k + low) % 2 ^ 64 ≡ raw) where
  pub place_in : k < entries → (k ≡ cond (leb low raw && ltb (raw - low) entries) (raw - low) entries) × (k ≤ entries)
  place_in h =
      let sum : raw ≡ k + low = sym e ∙ mod-eq_of_lt (omega arith) in
      let less : raw - low ≡ k = omega arith in
      (rw (le-leb low raw (omega arith), less, lt-ltb k entries h), omega arith)

  pub place_out : entries ≤ k → (entries ≡ cond (leb low raw && ltb (raw - low) entries) (raw - low) entries) × (entries ≤ entries)
  place_out h = (go (leb low raw) refl, omega arith)
    where
      go : (t : Bool) → leb low raw ≡ t → entries ≡ cond (t && ltb (raw - low) entries) (raw - low) entries
      go true s =
          let less : raw - low ≡ k = omega (arith, leb-true low raw s) in
          rw (less, le-ltb k entries h)
      go false s = refl

-- ---- an entry

pub entry_at : (table : List ℕ) (raw low entries : ℕ) {j : ℕ} → low ≡ get_or table 2 0 → entries ≡ get_or table 1 0
    → j ≡ cond (leb low raw && ltb (raw - low) entries) (raw - low) entries → get_or table (16 + j) 0 ≡ span_entry table raw
entry_at table raw low entries l n e = rw (e, l, n)

module _ (table : List ℕ) (raw e : ℕ) (span : 1 ≤ get_or table 1 0) (is : e ≡ span_entry table raw) where
  no_halves : eqb (get_or table 1 0) 0 ≡ false
  no_halves = ne_eqb (get_or table 1 0) 0 (λ x. omega arith)

  pub entry_out : (into : ℕ) → e % 4294967296 ≡ out_in table into raw
  unfolding out_in
  entry_out into = rw (no_halves, is)

  pub entry_none : e / 4294967296 ≡ none_in table raw
  unfolding none_in
  entry_none = rw (no_halves, is)
