-- Words in their slots: read, put, and kept by what is put in another slot. Assumes nothing.
use mathlib.Core.Path.{◌≡◌, refl, sym, ap, ◌∙◌}
use mathlib.Core.Logic.{⊎_elim}
use mathlib.Core.List.{List, [], ◌∷◌}
use Prim.Native.Nat.{ℕ, ◌+◌, ◌*◌, ◌%◌, ◌≤◌, ◌<◌}
use native.Mathlib.Decide.{dec_le}
use native.Mathlib.Nat.{mod-eq_of_lt, eq-or-lt_of_le, lt_of_not-le}
use native.Mathlib.Omega.{arith}
use lib.Dec.{lit<}
use lib.ListN.{length, get_or, replicate, get_or-replicate}
use lib.Seq.{paste}
use Rattle.bits.specs.declared.Order.{Order}
use Rattle.layout.specs.declared.Layout.{Layout}
use Rattle.layout.specs.Layout.{Valid}
use Rattle.table.specs.Table.{order_of, layout_at}
use Rattle.table.specs.Records.{order_code}
use Rattle.table.proofs.Coded.{order_back}
use Rattle.table.proofs.Stores.{paste_before, paste_at, paste_behind}
use Rattle.column_words.specs.declared.Words.{Words}
use Rattle.column_words.specs.Words.{words_of}
use Rattle.column_words.proofs.Made.{words_fit_64}
use Rattle.column_slots.specs.Slots.{slot_at, pair_word, Kept}

-- ---- a slot that is read

pub slot_read : (slots : List ℕ) (k : ℕ) {a b : Order} → a ≡ order_of (get_or slots (k + 2) 0) → b ≡ order_of (get_or slots (k + 13) 0)
    → ◌≡◌ {A = Words}
    (record {
      source_size = get_or slots (k + 1) 0;
      source_order = a;
      shift = get_or slots (k + 3) 0 % 64;
      mask = get_or slots (k + 4) 0;
      half = get_or slots (k + 5) 0;
      low = get_or slots (k + 6) 0;
      high = get_or slots (k + 7) 0;
      into = get_or slots (k + 8) 0;
      up = get_or slots (k + 9) 0 % 64;
      ones = get_or slots (k + 10) 0;
      keep = get_or slots (k + 11) 0;
      size = get_or slots (k + 12) 0;
      order = b;
    })
    (slot_at slots k)
unfolding slot_at
slot_read slots k ea eb = rw (ea, eb) refl

-- the words of a slot depend on thirteen words alone
pub slot_same : (x y : List ℕ) (k : ℕ) → ((q : ℕ) → q < 16 → get_or x (k + q) 0 ≡ get_or y (k + q) 0) → slot_at x k ≡ slot_at y k
unfolding slot_at
slot_same x y k h =
    rw (h 1 (lit< tt), h 2 (lit< tt), h 3 (lit< tt), h 4 (lit< tt), h 5 (lit< tt), h 6 (lit< tt), h 7 (lit< tt), h 8 (lit< tt), h 9 (lit< tt), h 10 (lit< tt), h 11 (lit< tt), h 12 (lit< tt), h 13 (lit< tt)) refl

-- ---- a slot that is put

-- the words of a pair, with the numbers a and b for the orders of bytes
abbrev pub slot_words : ℕ → Words → ℕ → ℕ → List ℕ
slot_words pair w a b =
    pair ∷ w.source_size ∷ a ∷ w.shift ∷ w.mask ∷ w.half ∷ w.low ∷ w.high ∷ w.into ∷ w.up ∷ w.ones ∷ w.keep ∷ w.size ∷ b ∷ []

module _ (slots : List ℕ) (k pair : ℕ) (w : Words) {a b : ℕ} (ea : a ≡ order_code w.source_order) (eb : b ≡ order_code w.order)
    (room : k + 16 ≤ length slots) (down : w.shift < 64) (up : w.up < 64) where
  abbrev out : List ℕ
  out = paste slots k (slot_words pair w a b) 14

  at : (q : ℕ) → q < 14 → get_or out (k + q) 0 ≡ get_or (slot_words pair w a b) q 0
  at q h = paste_at slots k (slot_words pair w a b) 14 (omega arith) (lit< tt) q h

  slot_is : slot_at out k ≡ w
  unfolding slot_at
  slot_is =
      rw (at 1 (lit< tt), at 2 (lit< tt), at 3 (lit< tt), at 4 (lit< tt), at 5 (lit< tt), at 6 (lit< tt), at 7 (lit< tt), at 8 (lit< tt), at 9 (lit< tt), at 10 (lit< tt), at 11 (lit< tt), at 12 (lit< tt), at 13 (lit< tt), ea, eb, order_back w.source_order, order_back w.order, mod-eq_of_lt down, mod-eq_of_lt up)
      refl

  first : get_or out k 0 ≡ pair
  first = let e : k ≡ k + 0 = omega arith in ap (λ (j : ℕ). get_or out j 0) e ∙ at 0 (lit< tt)

  pub slot_put : {x : List ℕ} → x ≡ out
      → (get_or x k 0 ≡ pair) × (slot_at x k ≡ w) × ((j : ℕ) → j < k → get_or x j 0 ≡ get_or slots j 0) × ((j : ℕ) → k + 16 ≤ j → get_or x j 0 ≡ get_or slots j 0)
  slot_put e =
      rw e
      (first, slot_is, (λ j h. paste_before slots k (slot_words pair w a b) 14 (omega arith) (lit< tt) j h), (λ j h. paste_behind slots k (slot_words pair w a b) 14 (omega arith) (lit< tt) j (omega arith)))

-- ---- slots are kept

-- the words that were found are the pair's
pub slot_found : (slots ws wd : List ℕ) (k s d : ℕ) {x : ℕ} {w : Words} → Kept slots ws wd → d < 64 → x ≡ get_or slots (16 * (k % 64)) 0 → x ≡ pair_word s d → w ≡ slot_at slots (16 * (k % 64))
    → w ≡ words_of (layout_at ws s) (layout_at wd d)
slot_found slots ws wd k s d kept h e p r = r ∙ kept (k % 64) s d (omega arith) h (sym e ∙ p)

-- the words of two layouts that were read
pub words_read : (ws wd : List ℕ) (s d : ℕ) {l m : Layout} {w : Words} → l ≡ layout_at ws s → m ≡ layout_at wd d → w ≡ words_of l m → w ≡ words_of (layout_at ws s) (layout_at wd d)
words_read ws wd s d el em e = rw (← el, ← em) e

pub shifts_low : {l m : Layout} {w : Words} → Valid l → Valid m → w ≡ words_of l m → (w.shift < 64) × (w.up < 64)
shifts_low s t e = rw e ((words_fit_64 s t).down, (words_fit_64 s t).up)

-- slots of zeros have no pair
pub kept_none : (ws wd : List ℕ) → Kept (replicate 1024 0) ws wd
kept_none ws wd h s d lh ld e =
    let z : ◌≡◌ {A = ℕ} (get_or (replicate 1024 0) (16 * h) 0) 0 = get_or-replicate 1024 (16 * h) 0 0 (omega arith) in
    absurd (omega arith)

-- with the words of s and d in slot k, each slot that has a pair has its words
pub kept_put : (slots out ws wd : List ℕ) (k s d : ℕ) → Kept slots ws wd → d < 64 → get_or out (16 * k) 0 ≡ pair_word s d
    → slot_at out (16 * k) ≡ words_of (layout_at ws s) (layout_at wd d)
    → ((j : ℕ) → j < 16 * k → get_or out j 0 ≡ get_or slots j 0) → ((j : ℕ) → 16 * k + 16 ≤ j → get_or out j 0 ≡ get_or slots j 0) → Kept out ws wd
kept_put slots out ws wd k s d kept hd pair is before behind h s' d' lh ld e =
    elim (dec_le k h) [
      | yes l ↦
          ⊎_elim
          (λ (q : k ≡ h).
          let p : pair_word s d ≡ pair_word s' d' = sym pair ∙ ap (λ (j : ℕ). get_or out (16 * j) 0) q ∙ e in
          let es : s ≡ s' = omega arith in
          let ed : d ≡ d' = omega arith in
          rw (← q, ← es, ← ed) is)
          (λ (q : k < h). elsewhere (λ r lr. behind (16 * h + r) (omega arith)))
          (eq-or-lt_of_le l)
      | no f ↦ let l : h < k = lt_of_not-le f in elsewhere (λ r lr. before (16 * h + r) (omega arith))
    ]
  where
    elsewhere : ((q : ℕ) → q < 16 → get_or out (16 * h + q) 0 ≡ get_or slots (16 * h + q) 0) → slot_at out (16 * h) ≡ words_of (layout_at ws s') (layout_at wd d')
    elsewhere same =
        let z : 16 * h ≡ 16 * h + 0 = omega arith in
        slot_same out slots (16 * h) same
        ∙ kept h s' d' lh ld (ap (λ (j : ℕ). get_or slots j 0) z ∙ sym (same 0 (lit< tt)) ∙ ap (λ (j : ℕ). get_or out j 0) (sym z) ∙ e)
