-- Ids put row by row, and what they say of names once all stand. Assumes nothing.
use mathlib.Core.Path.{◌≡◌, refl, sym, ◌∙◌}
use mathlib.Core.List.{List}
use mathlib.Core.Logic.{⊎_elim}
use Prim.Native.Nat.{ℕ, ◌+◌, ◌-◌, ◌≤◌, ◌<◌}
use native.Mathlib.Nat.{eq-zero-or-pos, zero-add}
use native.Mathlib.Omega.{arith}
use lib.ListN.{get_or, length, set, length-set}
use lib.Seq.{get_or-set_same, get_or-set_other}
use borrow.Author.Count.{below_more}
use borrow.Author.Tests.{le-ltb}
use Rattle.std.specs.Prelude.{Option, Some}
use Rattle.table.specs.Table.{type_word, row_word, first_word, rows_word, bytes_at, name_at}
use Rattle.table.specs.Words.{Reads}
use Rattle.table.specs.Rows.{row_named}
use Rattle.entry_code.specs.Code.{route_in}
use Rattle.plans.specs.PlanWords.{row_code, words_place}
use Rattle.plans.specs.PlanEntries.{NamesPut}
use Rattle.plans.proofs.Names.{named_within, ids_names}
use Rattle.name_ids.specs.Ids.{IdsPut}

-- ---- rows

-- a type behind the last one has no rows
past_types : (w : List ℕ) (i q : ℕ) → 64 ≤ i → type_word w i q ≡ 0
unfolding type_word
past_types w i q h = rw (le-ltb i 64 h)

-- the rows of type i are below r, as far as they are among the 256
abbrev pub Covers : List ℕ → ℕ → ℕ → Type 0
Covers w i r = (j : ℕ) → j < 256 → j < first_word w i + rows_word w i → j < r

pub covers_more : (w : List ℕ) (i was r : ℕ) {first rows : ℕ} → ((t : ℕ) → t < i → Covers w t was) → Reads (first_word w i) first → Reads (rows_word w i) rows
    → (r ≤ 256) × (was ≤ r) × ((j : ℕ) → j < 256 → j < first + rows → j < r) → (t : ℕ) → t < i + 1 → Covers w t r
covers_more w i was r all rf rr h =
    below_more (λ (t : ℕ). Covers w t r) i (λ t low j hj hr. omega (arith, all t low j hj hr, h.1)) (λ j hj hr. h.2 j hj (rw (rf.is, rr.is) hr))

pub covers_all : (w : List ℕ) (i r : ℕ) → 64 ≤ i → ((t : ℕ) → t < i → Covers w t r) → (t : ℕ) → Covers w t r
covers_all w i r h all t j hj hr =
    ⊎_elim (λ (z : i - t ≡ 0). absurd (omega (arith, past_types w t 9 (omega arith), past_types w t 10 (omega arith)))) (λ (l : 0 < i - t). all t (omega arith) j hj hr) (eq-zero-or-pos (i - t))

-- ---- ids

pub id_small : (w t x : List ℕ) (n : ℕ) {j : ℕ} {f : Option ℕ} → f ≡ row_named w t x 0 n → f ≡ Some j → n ≤ 256 → j < 256
id_small w t x n {j} e q h = omega (arith, (named_within w t x 0 n j (sym e ∙ q)).1)

pub id_read : (w t : List ℕ) (j : ℕ) (wd td : List ℕ) (rows : ℕ) {start len : ℕ} {f g : Option ℕ} → Reads (row_word w j 0) start → Reads (row_word w j 1) len
    → f ≡ row_named wd td (bytes_at t start len) 0 rows → f ≡ g → row_code g ≡ row_code (row_named wd td (name_at w t j) 0 rows)
id_read w t j wd td rows rs rl e q = rw (← rs.is, ← rl.is, ← e, q)

pub ids_none : (words : List ℕ) (k : ℕ) (w t wd td : List ℕ) (rows : ℕ) → IdsPut words k w t 0 wd td rows words
ids_none words k w t wd td rows = record { ids = λ j h. absurd (omega arith); below = λ j h. refl; above = λ j h. refl; long = refl }

-- one row more
pub ids_more : (before : List ℕ) (k : ℕ) (w t : List ℕ) (n : ℕ) (wd td : List ℕ) (rows : ℕ) (mid : List ℕ) {v : ℕ} → IdsPut before k w t n wd td rows mid → k + n < length mid
    → v ≡ row_code (row_named wd td (name_at w t n) 0 rows) → IdsPut before k w t (n + 1) wd td rows (set mid (k + n) v)
ids_more before k w t n wd td rows mid {v} many room e =
    record {
      ids =
          below_more (λ (j : ℕ). get_or (set mid (k + n) v) (k + j) 0 ≡ row_code (row_named wd td (name_at w t j) 0 rows)) n
          (λ j h. get_or-set_other mid (k + n) (k + j) v 0 (λ q. omega (arith, q)) ∙ many.ids j h)
          (get_or-set_same mid (k + n) v 0 room ∙ e);
      below = λ j h. get_or-set_other mid (k + n) j v 0 (λ q. omega (arith, q)) ∙ many.below j h;
      above = λ j h. get_or-set_other mid (k + n) j v 0 (λ q. omega (arith, q)) ∙ many.above j (omega arith);
      long = length-set mid (k + n) v ∙ many.long;
    }

pub ids_all : (before : List ℕ) (k : ℕ) (w t : List ℕ) (j n : ℕ) (wd td : List ℕ) (rows : ℕ) (after : List ℕ) → IdsPut before k w t j wd td rows after → n ≤ j → j ≤ n
    → IdsPut before k w t n wd td rows after
ids_all before k w t j n wd td rows after h low high = let e : j ≡ n = omega arith in rw e at h

-- ---- names

pub routes_more : (words : List ℕ) (i : ℕ) {x o : ℕ} → ((t : ℕ) → t < i → route_in (get_or words (words_place t) 0) < 7) → Reads (get_or words (words_place i) 0) x → o ≡ route_in x → o < 7
    → (t : ℕ) → t < i + 1 → route_in (get_or words (words_place t) 0) < 7
routes_more words i all rx e h = below_more (λ (t : ℕ). route_in (get_or words (words_place t) 0) < 7) i all (rw (← rx.is, ← e) h)

pub names_unwanted : (words : List ℕ) (n : ℕ) (ws ts wd td : List ℕ) → ((i : ℕ) → i < n → route_in (get_or words (words_place i) 0) < 7) → NamesPut words n ws ts wd td words
names_unwanted words n ws ts wd td none = record { names = λ i h many. absurd (omega (arith, none i h)); above = λ j h. refl; long = refl }

pub names_put : (before : List ℕ) (n : ℕ) (ws ts wd td mid after : List ℕ) {r q : ℕ} → (r ≤ 256) × ((t : ℕ) → Covers ws t r) → (q ≤ 256) × ((t : ℕ) → Covers wd t q)
    → IdsPut before 0 ws ts r wd td q mid → IdsPut mid 256 wd td q wd td q after → NamesPut before n ws ts wd td after
names_put before n ws ts wd td mid after {r} {q} hr hq one two =
    record {
      names =
          λ i h many. ids_names after ws ts wd td q
          (λ j low row. two.below j low ∙ rw (zero-add j) at (one.ids j (hr.1 row.type j low row.below)))
          (λ k low row. let inside : k < q = hq.1 row.type k low row.below in (inside, two.ids k inside));
      above = λ j h. two.above j (omega arith) ∙ one.above j (omega arith);
      long = two.long ∙ one.long;
    }
