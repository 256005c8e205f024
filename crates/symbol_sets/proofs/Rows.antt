-- Symbols in rows, looked up one after the other, and the pairs of enums whose symbols all stand. Assumes nothing.
use mathlib.Core.Path.{◌≡◌, refl, sym, ap, ◌∙◌}
use mathlib.Core.Bool.{Bool, true, false, cond, ◌&&◌, ◌||◌}
use mathlib.Core.List.{List}
use Prim.Native.Nat.{ℕ, zero, suc, ◌+◌, ◌-◌, ◌*◌, ◌≤◌, ◌<◌}
use native.Mathlib.Nat.{not-suc-le-zero, lt_of_not-le}
use native.Mathlib.Decide.{dec_le, ℕ_discrete}
use native.Mathlib.Numerals.{sub-one}
use native.Mathlib.Omega.{arith}
use lib.ListN.{get_or, length, set, replicate, length-set, length-replicate, get_or-replicate, get_or-eq_default}
use lib.Seq.{get_or-set_other}
use Rattle.datatype.specs.Datatype.{Symbol, same}
use Rattle.datatype.specs.SymbolSets.{has_symbol, all_stand_in}
use Rattle.std.specs.Prelude.{Option, Some, None}
use Rattle.table.specs.Table.{first_word, rows_word, name_at, symbols_at}
use Rattle.table.specs.Words.{Reads}
use Rattle.table.specs.Rows.{row_named}
use Rattle.namesakes.specs.Named.{NamedIn}
use Rattle.namesakes.proofs.Named.{some_row}
use Rattle.symbol_sets.specs.Seen.{symbols_of_type, all_stand, Seen}

-- ---- symbols in rows

abbrev is_found : Option ℕ → Bool
is_found (Some j) = true
is_found None = false

is_some : (r : Option ℕ) → (r ≡ None → ⊥) → is_found r ≡ true
is_some (Some j) h = refl
is_some None h = absurd (h refl)

has_named : (w t x : List ℕ) (first n : ℕ) → has_symbol x (symbols_at w t first n) ≡ is_found (row_named w t x first n)
unfolding has_symbol symbols_at row_named
has_named w t x first zero = refl
has_named w t x first (suc n) = go (has_named w t x first n) (same x (name_at w t (first + n)))
  where
    go : has_symbol x (symbols_at w t first n) ≡ is_found (row_named w t x first n) → (b : Bool)
        → b || has_symbol x (symbols_at w t first n) ≡ is_found (cond b (Some (first + n)) (row_named w t x first n))
    go later true = refl
    go later false = later

pub stand_start : (ws ts : List ℕ) (s : ℕ) (ss : List Symbol) {first n : ℕ} → Reads (first_word ws s) first → Reads (rows_word ws s) n
    → all_stand_in (symbols_of_type ws ts s) ss ≡ all_stand_in (symbols_at ws ts first n) ss
stand_start ws ts s ss hf hn = rw (hf.is, hn.is) refl

module _ (ws ts : List ℕ) (first : ℕ) (ss : List Symbol) where
  pub stand_none : (n : ℕ) → n ≤ 0 → all_stand_in (symbols_at ws ts first n) ss ≡ true
  unfolding all_stand_in symbols_at
  stand_none zero h = refl
  stand_none (suc n) h = absurd (not-suc-le-zero h)

  stand_more : (n : ℕ) → 0 < n
      → all_stand_in (symbols_at ws ts first n) ss ≡ has_symbol (name_at ws ts (first + (n - 1))) ss && all_stand_in (symbols_at ws ts first (n - 1)) ss
  unfolding all_stand_in symbols_at
  stand_more zero h = absurd (not-suc-le-zero h)
  stand_more (suc n) h = rw sub-one refl

module _ (ws ts : List ℕ) (first : ℕ) (wd td : List ℕ) (d n : ℕ) (h : 0 < n) {r : Option ℕ}
    (hr : NamedIn wd td (name_at ws ts (first + (n - 1))) (first_word wd d) (rows_word wd d) r) where
  found_is : {v : Option ℕ} → r ≡ v → has_symbol (name_at ws ts (first + (n - 1))) (symbols_of_type wd td d) ≡ is_found v
  found_is {v} e = has_named wd td (name_at ws ts (first + (n - 1))) (first_word wd d) (rows_word wd d) ∙ go v e
    where
      go : (v : Option ℕ) → r ≡ v → is_found (row_named wd td (name_at ws ts (first + (n - 1))) (first_word wd d) (rows_word wd d)) ≡ is_found v
      go (Some j) q = is_some _ (some_row wd td (name_at ws ts (first + (n - 1))) (first_word wd d) (rows_word wd d) hr q)
      go None q = ap is_found (hr.none q)

  pub stand_lost : r ≡ None → all_stand_in (symbols_at ws ts first n) (symbols_of_type wd td d) ≡ false
  stand_lost e = stand_more ws ts first (symbols_of_type wd td d) n h ∙ rw (found_is e) refl

  pub stand_next : {j : ℕ} → r ≡ Some j
      → all_stand_in (symbols_at ws ts first n) (symbols_of_type wd td d) ≡ all_stand_in (symbols_at ws ts first (n - 1)) (symbols_of_type wd td d)
  stand_next e = stand_more ws ts first (symbols_of_type wd td d) n h ∙ rw (found_is e) refl

-- ---- pairs of enums

module _ (ws ts wd td : List ℕ) where
  pub seen_none : (n : ℕ) → n ≡ 4096 → Seen ws ts wd td (replicate n 0)
  seen_none n p = record { pairs = length-replicate {A = ℕ} n 0 ∙ p; stand = λ s d h e. absurd (go (64 * s + d) e (dec_le n (64 * s + d))) }
    where
      go : (k : ℕ) → ◌≡◌ {A = ℕ} (get_or (replicate n 0) k 0) 1 → Dec (n ≤ k) → ⊥
      go k e (yes l) = omega (arith, sym (get_or-eq_default {A = ℕ} (replicate n 0) 0 (rw (length-replicate {A = ℕ} n 0) l)) ∙ e)
      go k e (no l) = omega (arith, sym (get_or-replicate {A = ℕ} n k 0 0 (lt_of_not-le l)) ∙ e)

  module _ (s d : ℕ) (seen : List ℕ) (before : Seen ws ts wd td seen) (hs : s < 64) (hd : d < 64) where
    pub pair_inside : 64 * s + d < length seen
    pair_inside = rw before.pairs (omega arith)

    pub seen_stand : get_or seen (64 * s + d) 0 ≡ 1 → true ≡ all_stand ws ts s wd td d
    seen_stand e = sym (before.stand s d hd e)

    pub seen_more : all_stand ws ts s wd td d ≡ true → Seen ws ts wd td (set seen (64 * s + d) 1)
    seen_more holds =
        record {
          pairs = length-set seen (64 * s + d) 1 ∙ before.pairs;
          stand = λ i k h e. go i k h e (ℕ_discrete (64 * i + k) (64 * s + d));
        }
      where
        go : (i k : ℕ) → k < 64 → get_or (set seen (64 * s + d) 1) (64 * i + k) 0 ≡ 1 → Dec (64 * i + k ≡ 64 * s + d) → all_stand ws ts i wd td k ≡ true
        go i k h e (yes p) =
            let is : i ≡ s = omega arith in
            let kd : k ≡ d = omega arith in
            rw (is, kd) holds
        go i k h e (no p) = before.stand i k h (sym (get_or-set_other seen (64 * s + d) (64 * i + k) 1 0 p) ∙ e)
