-- What the comparisons of two types' words and of a plan's entries say. Assumes nothing.
use mathlib.Core.Path.{◌≡◌, refl, sym, ◌∙◌}
use mathlib.Core.Bool.{false}
use mathlib.Core.List.{List}
use Prim.Native.Nat.{ℕ, ◌+◌, ◌≤◌, ◌<◌}
use native.Mathlib.Numerals.{add-one}
use native.Mathlib.Omega.{arith}
use borrow.Author.Tests.{eq-eqb, ne_eqb}
use Rattle.table.specs.Table.{class_word, type_word}
use Rattle.table.specs.Words.{Reads}
use Rattle.plans.specs.declared.PlanEntry.{PlanEntry}
use Rattle.plans.specs.PlanWords.{one_real, to_byte, from_byte}
use Rattle.plans.specs.PlanEntries.{words_at}
use Rattle.plans.proofs.Spans.{one_from, one_to}
use Rattle.same_bytes.specs.Same.{Fills, Stays, StaysAt, Adjoin}

-- ---- classes

module _ (ws : List ℕ) (f : ℕ) (wd : List ℕ) (g : ℕ) {from to : ℕ} (rf : Reads (class_word ws f) from) (rt : Reads (class_word wd g) to) (other : to ≡ 2 → ⊥) where
  no_enum : class_word wd g ≡ 2 → ⊥
  no_enum e = other (rt.is ∙ e)

  pub two_reals : to ≡ 5 → from ≡ 5 → (class_word wd g ≡ 2 → ⊥) × (one_real ws f wd g ≡ false)
  two_reals et ef = (no_enum, sym (one_from ws f wd g rf rt ef) ∙ rw (eq-eqb to 5 et))

  pub no_reals : (to ≡ 5 → ⊥) → (from ≡ 5 → ⊥) → (class_word wd g ≡ 2 → ⊥) × (one_real ws f wd g ≡ false)
  no_reals et ef = (no_enum, sym (one_to ws f wd g rf rt ef) ∙ ne_eqb to 5 et)

-- ---- two types

pub stays_is : (ws : List ℕ) (f : ℕ) (wd : List ℕ) (g : ℕ) {n m : ℕ} → (1 ≤ n → Fills ws f n) → (1 ≤ m → Fills wd g m) → m ≡ n → type_word ws f 2 ≡ type_word wd g 2 → type_word ws f 7 ≡ type_word wd g 7
    → (class_word wd g ≡ 2 → ⊥) × (one_real ws f wd g ≡ false) → 1 ≤ n → Stays ws f wd g n
stays_is ws f wd g hs hd e order sign alike some =
    record { source = hs some; destination = (rw e at hd) some; order = order; sign = sign; plain = alike.0; alike = alike.1 }

-- ---- one entry, and one more

pub stays_at : (plan ws wd : List ℕ) (i to from : ℕ) {n : ℕ} {e : PlanEntry} → e ≡ words_at plan i → e.to ≡ to → e.from ≡ from → (1 ≤ n → Stays ws e.source wd e.destination n)
    → 1 ≤ n → StaysAt plan ws wd i to from n
stays_at plan ws wd i to from q et ef h some = record { writes = rw q at et; reads = rw q at ef; leaf = (rw q at h) some }

pub adjoin_more : (plan ws wd : List ℕ) (i to from k m n : ℕ) → Adjoin plan ws wd i to from k m → StaysAt plan ws wd (i + k) (to + m) (from + m) n → Adjoin plan ws wd i to from (k + 1) (m + n)
adjoin_more plan ws wd i to from k m n a t = rw (add-one k) (m, n, a, t, refl)

-- ---- where entry i begins

module _ (plan : List ℕ) (i : ℕ) {e : PlanEntry} (q : e ≡ words_at plan i) where
  pub from_small : e.from < 4294967296
  unfolding from_byte
  from_small = rw q (omega arith)

  pub run_is : (ws wd : List ℕ) (k bytes n : ℕ) → (i + k ≤ n) × Adjoin plan ws wd i e.to e.from k bytes
      → (i + k ≤ n) × Adjoin plan ws wd i (to_byte plan i) (from_byte plan i) k bytes
  run_is ws wd k bytes n h = rw q at h
