-- The members in a table's rows, found by a byte and by a name. Assumes nothing.
use mathlib.Core.Path.{◌≡◌, refl, sym, ap, ◌∙◌}
use mathlib.Core.Logic.{◌⊎◌, inl, inr}
use mathlib.Core.Bool.{Bool, true, false, cond, false≢true}
use mathlib.Core.List.{List}
use Prim.Native.Nat.{ℕ, zero, suc, ◌+◌, ◌-◌, ◌*◌, ◌≤◌, ◌<◌}
use native.Mathlib.Nat.{not-suc-le-zero, lt_of_not-le, lt_of_le_of_lt, mul-le-mul, le-pred_of_lt}
use native.Mathlib.Decide.{dec_le, ℕ_discrete}
use native.Mathlib.Numerals.{sub-one}
use native.Mathlib.Omega.{arith}
use lib.Dec.{lit<}
use mir.Syntax.{w64}
use mir.Val.{Fits}
use borrow.Author.Rules.{rules}
use Rattle.datatype.specs.Datatype.{Datatype, size}
use Rattle.datatype.specs.Leaves.{within}
use Rattle.datatype.specs.WellFormed.{Apart, WellFormed, WellFormedIn}
use Rattle.datatype.proofs.Tests.{within→, →within, not_within}
use Rattle.datatype.proofs.Ways.{formed_found}
use Rattle.std.specs.Prelude.{Option, Some, None}
use Rattle.table.specs.Table.{size_word, first_word, rows_word, offset_word, member_type_word, members_at}
use Rattle.table.specs.Words.{Reads}
use Rattle.table.specs.Rows.{row_named, member_found}
use Rattle.table.proofs.Lookups.{member_named_lem}
use Rattle.paths.specs.Steps.{Sized, covers, row_over, OverIn, row_end, Nearer, GapEnd}

pub cond_push : {A B : Type 0} (f : A → B) (x y : A) (t : Bool) → cond t (f x) (f y) ≡ f (cond t x y)
cond_push f x y true = refl
cond_push f x y false = refl

-- ---- by a byte, one row after the other

module _ (w : List ℕ) (first b : ℕ) where
  pub over_none : (n : ℕ) → n ≤ 0 → row_over w first n b ≡ None
  unfolding row_over
  over_none zero h = refl
  over_none (suc n) h = absurd (not-suc-le-zero h)

  pub over_hit : (n : ℕ) {r : Bool} → 0 < n → r ≡ covers w (first + (n - 1)) b → r ≡ true → row_over w first n b ≡ Some (first + (n - 1))
  unfolding row_over
  over_hit zero h e q = absurd (not-suc-le-zero h)
  over_hit (suc n) h e q = rw sub-one (rw (← (rw sub-one at e), q) refl)

  pub over_skip : (n : ℕ) {r : Bool} → 0 < n → r ≡ covers w (first + (n - 1)) b → r ≡ false → row_over w first n b ≡ row_over w first (n - 1) b
  unfolding row_over
  over_skip zero h e q = absurd (not-suc-le-zero h)
  over_skip (suc n) h e q = rw sub-one (rw (← (rw sub-one at e), q) refl)

  -- a row that is found has the byte
  pub over_has : (n : ℕ) {j : ℕ} → row_over w first n b ≡ Some j → (first ≤ j) × (j < first + n) × (covers w j b ≡ true)
  unfolding row_over
  over_has zero e = let no : ◌≡◌ {A = ℕ} 0 1 = cc in absurd (omega arith)
  over_has (suc n) {j} e = go (over_has n) (covers w (first + n) b) refl e
    where
      go : (row_over w first n b ≡ Some j → (first ≤ j) × (j < first + n) × (covers w j b ≡ true))
          → (c : Bool) → covers w (first + n) b ≡ c → cond c (Some (first + n)) (row_over w first n b) ≡ Some j
          → (first ≤ j) × (j < first + suc n) × (covers w j b ≡ true)
      go later true h q = let at : first + n ≡ j = cc in (omega arith, omega arith, rw at at h)
      go later false h q = let l = later q in (l.0, omega (arith, l.1), l.2)

  pub over_rows : (n : ℕ) {r : Option ℕ} → r ≡ row_over w first n b → OverIn w first n b r
  over_rows n e = record { has = λ j q. over_has n (sym e ∙ q); none = λ q. sym e ∙ q }

  -- a row near a place has it
  pub over_place : (n at : ℕ) {t : Bool} → at < n → t ≡ covers w (first + at) b → t ≡ true → OverIn w first n b (Some (first + at))
  over_place n at h e q =
      record {
        has = λ j p. let is : first + at ≡ j = cc in (omega arith, omega arith, rw (← is) (sym e ∙ q));
        none = λ p. let no : ◌≡◌ {A = ℕ} 0 1 = cc in absurd (omega arith);
      }

-- the rows by the words that were read, and a product of two words
pub over_words : (w : List ℕ) (i b : ℕ) {first n : ℕ} {r : Option ℕ} → Reads (first_word w i) first → Reads (rows_word w i) n → OverIn w first n b r
    → OverIn w (first_word w i) (rows_word w i) b r
over_words w i b hf hn over = rw (← hf.is, ← hn.is) over

pub product_fits : (a b : ℕ) → a < 4294967296 → b < 4294967296 → Fits w64 (a * b)
product_fits a b p q = record { fits = lt_of_le_of_lt (mul-le-mul (le-pred_of_lt p) (le-pred_of_lt q)) (lit< tt) }

pub byte_fits : (b : ℕ) {u v z n : ℕ} → b < u → Reads u z → Reads v n → Fits w64 (n * b)
byte_fits b {n = n} h hz hn = product_fits n b hn.small (omega (arith, hz.small, hz.is))

pub ruleset place_laws = (rules, over_words, byte_fits)

-- ---- between members

module _ (w : List ℕ) (first n b end : ℕ) where
  pub gap_start : b < end → GapEnd w first n n b end end
  gap_start h = record { behind = h; inside = omega arith; clear = λ i l r. absurd (omega arith) }

  pub gap_next : (left at o r : ℕ) → GapEnd w first left n b end at → 0 < left → Reads (offset_word w (first + (left - 1))) o → Nearer b o at r
      → GapEnd w first (left - 1) n b end r
  gap_next left at o r gap h ho near =
      record {
        behind = near.behind;
        inside = omega (arith, near.inside, gap.inside);
        clear = λ i l k. go i l k (dec_le left i);
      }
    where
      later : (i : ℕ) → (offset_word w (first + i) ≤ b) ⊎ (at ≤ offset_word w (first + i)) → (offset_word w (first + i) ≤ b) ⊎ (r ≤ offset_word w (first + i))
      later i (inl k) = inl k
      later i (inr k) = inr (omega (arith, near.inside))

      go : (i : ℕ) → left - 1 ≤ i → i < n → Dec (left ≤ i) → (offset_word w (first + i) ≤ b) ⊎ (r ≤ offset_word w (first + i))
      go i l k (yes m) = later i (gap.clear i m k)
      go i l k (no m) = let last : i ≡ left - 1 = omega (arith, lt_of_not-le m) in rw (last, ← ho.is) near.clear

  pub gap_all : (left r : ℕ) → GapEnd w first left n b end r → left ≤ 0 → GapEnd w first 0 n b end r
  gap_all left r gap h = record { behind = gap.behind; inside = gap.inside; clear = λ i l k. gap.clear i (omega arith) k }

-- one member is neither at byte b nor behind it before byte r
past_within : (o v b c r : ℕ) → within o v b ≡ false → (o ≤ b) ⊎ (r ≤ o) → b ≤ c → c < r → within o v c ≡ false
past_within o v b c r e clear l h = go (within o v c) refl clear
  where
    go : (t : Bool) → within o v c ≡ t → (o ≤ b) ⊎ (r ≤ o) → t ≡ false
    go false q k = refl
    go true q (inl k) =
        let at : o + (b - o) ≡ b = omega arith in
        absurd (false≢true (sym e ∙ rw at at (→within o v (b - o) (omega (arith, within→ o v c q)))))
    go true q (inr k) = absurd (omega (arith, within→ o v c q))

pub over_gap : (w : List ℕ) (first n b c r : ℕ) → ((i : ℕ) → i < n → (offset_word w (first + i) ≤ b) ⊎ (r ≤ offset_word w (first + i)))
    → row_over w first n b ≡ None → b ≤ c → c < r → row_over w first n c ≡ None
unfolding row_over
over_gap w first zero b c r clear e l h = refl
over_gap w first (suc n) b c r clear e l h = go (λ q. over_gap w first n b c r (λ i g. clear i (omega arith)) q l h) (covers w (first + n) b) refl e
  where
    go : (row_over w first n b ≡ None → row_over w first n c ≡ None) → (x : Bool) → covers w (first + n) b ≡ x → cond x (Some (first + n)) (row_over w first n b) ≡ None
        → cond (covers w (first + n) c) (Some (first + n)) (row_over w first n c) ≡ None
    go later true k q = let no : ◌≡◌ {A = ℕ} 0 1 = cc in absurd (omega arith)
    go later false k q =
        rw (past_within (offset_word w (first + n)) (size_word w (member_type_word w (first + n))) b c r k (clear n (omega arith)) l h)
        (later q)

-- ---- what a row that is found is

module _ (D : ℕ → Datatype) (w t : List ℕ) (z first : ℕ) where
  pub over_formed : (n b : ℕ) {j : ℕ} → WellFormedIn z (members_at D w t first n) → row_over w first n b ≡ Some j
      → (offset_word w j + size (D (member_type_word w j)) ≤ z) × WellFormed (D (member_type_word w j))
  unfolding row_over members_at
  over_formed zero b f e = let no : ◌≡◌ {A = ℕ} 0 1 = cc in absurd (omega arith)
  over_formed (suc n) b {j} f e = go (over_formed n b f.2) (covers w (first + n) b) e
    where
      go : (row_over w first n b ≡ Some j → (offset_word w j + size (D (member_type_word w j)) ≤ z) × WellFormed (D (member_type_word w j)))
          → (c : Bool) → cond c (Some (first + n)) (row_over w first n b) ≡ Some j → (offset_word w j + size (D (member_type_word w j)) ≤ z) × WellFormed (D (member_type_word w j))
      go later true q = let at : first + n ≡ j = cc in rw (← at) (f.0.inside, f.1)
      go later false q = later q

  pub named_formed : (x : List ℕ) (n : ℕ) {j : ℕ} → WellFormedIn z (members_at D w t first n) → row_named w t x first n ≡ Some j
      → (offset_word w j + size (D (member_type_word w j)) ≤ z) × WellFormed (D (member_type_word w j))
  named_formed x n f e = formed_found z (members_at D w t first n) x f (member_named_lem w t x first D n ∙ ap (member_found D w) e)

  -- the bytes from o on lie apart from the member in a row that is found
  apart_over : (o v n b : ℕ) {j : ℕ} → Apart o v (members_at D w t first n) → row_over w first n b ≡ Some j
      → (o + v ≤ offset_word w j) ⊎ (offset_word w j + size (D (member_type_word w j)) ≤ o)
  unfolding row_over members_at
  apart_over o v zero b a e = let no : ◌≡◌ {A = ℕ} 0 1 = cc in absurd (omega arith)
  apart_over o v (suc n) b {j} a e = go (apart_over o v n b a.1) (covers w (first + n) b) e
    where
      go : (row_over w first n b ≡ Some j → (o + v ≤ offset_word w j) ⊎ (offset_word w j + size (D (member_type_word w j)) ≤ o))
          → (c : Bool) → cond c (Some (first + n)) (row_over w first n b) ≡ Some j → (o + v ≤ offset_word w j) ⊎ (offset_word w j + size (D (member_type_word w j)) ≤ o)
      go later true q = let at : first + n ≡ j = cc in rw (← at) a.0
      go later false q = later q

  -- members do not overlap: a row that has the byte is the row that is found
  over_once : Sized D w → (n b j : ℕ) → WellFormedIn z (members_at D w t first n) → first ≤ j → j < first + n → covers w j b ≡ true → row_over w first n b ≡ Some j
  unfolding row_over members_at
  over_once sized zero b j f l r e = absurd (omega arith)
  over_once sized (suc n) b j f l r e = go (λ h. over_once sized n b j f.2 l h e) (ℕ_discrete j (first + n))
    where
      go : (j < first + n → row_over w first n b ≡ Some j) → Dec (j ≡ first + n)
          → cond (covers w (first + n) b) (Some (first + n)) (row_over w first n b) ≡ Some j
      go older (yes is) = rw (← is, e) refl
      go older (no past) =
          let o : ℕ = offset_word w (first + n) in
          let v : ℕ = size (D (member_type_word w (first + n))) in
          let later = older (omega arith) in
          let here = within→ (offset_word w j) (size_word w (member_type_word w j)) b e in
          let at : offset_word w j + (b - offset_word w j) ≡ b = omega (arith, here.0) in
          rw (← sized (member_type_word w (first + n)), ← at, not_within o v (offset_word w j) (size (D (member_type_word w j))) (b - offset_word w j) (apart_over o v n b f.0.apart later) (omega (arith, here, sized (member_type_word w j))), at)
          later

  pub the_row_over : Sized D w → (n b : ℕ) {r : Option ℕ} → WellFormedIn z (members_at D w t first n) → OverIn w first n b r → r ≡ row_over w first n b
  the_row_over sized n b {r} f over = go r refl
    where
      go : (v : Option ℕ) → r ≡ v → v ≡ row_over w first n b
      go (Some j) e = let h = over.has j e in sym (over_once sized n b j f h.0 h.1 h.2)
      go None e = sym (over.none e)

  -- the same row is found by every byte of its member
  pub over_same : Sized D w → (n b c : ℕ) {j : ℕ} → WellFormedIn z (members_at D w t first n) → row_over w first n b ≡ Some j → offset_word w j ≤ c → c < row_end w j
      → row_over w first n c ≡ Some j
  over_same sized n b c {j} f e l r =
      let found = over_has w first b n e in
      let at : offset_word w j + (c - offset_word w j) ≡ c = omega arith in
      over_once sized n c j f found.0 found.1 (rw at at (→within (offset_word w j) (size_word w (member_type_word w j)) (c - offset_word w j) (omega arith)))

  -- the newest row, and the others
  pub row_formed : (n : ℕ) → 0 < n → WellFormedIn z (members_at D w t first n)
      → WellFormed (D (member_type_word w (first + (n - 1)))) × WellFormedIn z (members_at D w t first (n - 1))
  unfolding members_at
  row_formed zero h f = absurd (not-suc-le-zero h)
  row_formed (suc n) h f = rw sub-one (f.1, f.2)
