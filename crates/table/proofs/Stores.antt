-- The words of a table after a record was stored in it. Assumes nothing.
use mathlib.Core.Path.{◌≡◌, sym, ap, ◌∙◌}
use mathlib.Core.List.{List, ◌++◌}
use mathlib.Core.Bool.{cond}
use Prim.Native.Nat.{ℕ, ◌+◌, ◌-◌, ◌*◌, ◌<◌, ◌≤◌}
use native.Mathlib.Omega.{arith}
use borrow.Author.Tests.{lt-ltb}
use lib.Dec.{ltb}
use lib.ListN.{get_or, length, take, drop, length-set, get_or-append}
use lib.Seq.{paste, length-paste, length_paste_head, length-take-le, drop-paste, get_or-take, get_or-drop, get_or-append-add, get_or-set_same, get_or-set_other}
use Rattle.table.specs.Table.{type_word, row_word, rows_word}
use Rattle.table.specs.Records.{row_added}

-- n elements of s pasted over d from index at on
module _ (d : List ℕ) (at : ℕ) (s : List ℕ) (n : ℕ) (fits : at + n ≤ length d) (enough : n ≤ length s) where
  head : length (take at d ++ take n s) ≡ at + n
  head = length_paste_head d at s n (omega arith) enough

  pub paste_before : (q : ℕ) → q < at → get_or (paste d at s n) q 0 ≡ get_or d q 0
  paste_before q h =
      let l : length (take at d) ≡ at = length-take-le at d (omega arith) in
      get_or-append (take at d ++ take n s) (drop (at + n) d) 0 q (omega (arith, head))
      ∙ get_or-append (take at d) (take n s) 0 q (omega arith)
      ∙ get_or-take at d q 0 h

  pub paste_at : (q : ℕ) → q < n → get_or (paste d at s n) (at + q) 0 ≡ get_or s q 0
  paste_at q h =
      let l : length (take at d) ≡ at = length-take-le at d (omega arith) in
      get_or-append (take at d ++ take n s) (drop (at + n) d) 0 (at + q) (omega (arith, head))
      ∙ ap (λ (k : ℕ). get_or (take at d ++ take n s) (k + q) 0) (sym l)
      ∙ get_or-append-add (take at d) (take n s) q 0
      ∙ get_or-take n s q 0 h

  pub paste_behind : (q : ℕ) → at + n ≤ q → get_or (paste d at s n) q 0 ≡ get_or d q 0
  paste_behind q h =
      let e : q ≡ at + n + (q - (at + n)) = omega arith in
      ap (λ (k : ℕ). get_or (paste d at s n) k 0) e
      ∙ sym (get_or-drop (at + n) (paste d at s n) (q - (at + n)) 0)
      ∙ ap (λ (l : List ℕ). get_or l (q - (at + n)) 0) (drop-paste d at s n (omega arith) enough)
      ∙ get_or-drop (at + n) d (q - (at + n)) 0
      ∙ ap (λ (k : ℕ). get_or d k 0) (sym e)

-- the record r of type i
module _ (w r : List ℕ) (i : ℕ) (h : i < 64) (words : length w ≡ 4096) (whole : length r ≡ 16) where
  pub type_made : (q : ℕ) → q < 16 → type_word (paste w (16 * i) r 16) i q ≡ get_or r q 0
  unfolding type_word
  type_made q g = rw (lt-ltb i 64 h) (paste_at w (16 * i) r 16 (omega arith) (omega arith) q g)

  pub type_before : (k q : ℕ) → k < i → q < 16 → type_word w k q ≡ type_word (paste w (16 * i) r 16) k q
  unfolding type_word
  type_before k q g x = ap (λ (y : ℕ). cond (ltb k 64) y 0) (sym (paste_before w (16 * i) r 16 (omega arith) (omega arith) (16 * k + q) (omega arith)))

  pub type_rows : (j q : ℕ) → row_word w j q ≡ row_word (paste w (16 * i) r 16) j q
  unfolding row_word
  type_rows j q = ap (λ (y : ℕ). cond (ltb j 256) y 0) (sym (paste_behind w (16 * i) r 16 (omega arith) (omega arith) (1024 + 8 * j + q) (omega arith)))

-- the record r of row j, one more of type i
module _ (w r : List ℕ) (i j : ℕ) (h : i < 64) (g : j < 256) (words : length w ≡ 4096) (whole : length r ≡ 8) where
  long : length (paste w (1024 + 8 * j) r 8) ≡ 4096
  long = length-paste w (1024 + 8 * j) r 8 (omega arith) (omega arith) ∙ words

  pub row_length : length (row_added w i j r) ≡ 4096
  unfolding row_added
  row_length = length-set (paste w (1024 + 8 * j) r 8) (16 * i + 10) (rows_word w i + 1) ∙ long

  pub row_made : (q : ℕ) → q < 8 → row_word (row_added w i j r) j q ≡ get_or r q 0
  unfolding row_word row_added
  row_made q x =
      rw (lt-ltb j 256 g)
      (get_or-set_other (paste w (1024 + 8 * j) r 8) (16 * i + 10) (1024 + 8 * j + q) (rows_word w i + 1) 0 (λ e. omega arith)
      ∙ paste_at w (1024 + 8 * j) r 8 (omega arith) (omega arith) q x)

  pub row_before : (k q : ℕ) → k < j → q < 8 → row_word w k q ≡ row_word (row_added w i j r) k q
  unfolding row_word row_added
  row_before k q x y =
      ap (λ (z : ℕ). cond (ltb k 256) z 0)
      (sym (get_or-set_other (paste w (1024 + 8 * j) r 8) (16 * i + 10) (1024 + 8 * k + q) (rows_word w i + 1) 0 (λ e. omega arith)
      ∙ paste_before w (1024 + 8 * j) r 8 (omega arith) (omega arith) (1024 + 8 * k + q) (omega arith)))

  pub row_types : (k q : ℕ) → k < 64 → q < 16 → (16 * k + q ≡ 16 * i + 10 → ⊥) → type_word w k q ≡ type_word (row_added w i j r) k q
  unfolding type_word row_added
  row_types k q x y ne =
      ap (λ (z : ℕ). cond (ltb k 64) z 0)
      (sym (get_or-set_other (paste w (1024 + 8 * j) r 8) (16 * i + 10) (16 * k + q) (rows_word w i + 1) 0 ne
      ∙ paste_before w (1024 + 8 * j) r 8 (omega arith) (omega arith) (16 * k + q) (omega arith)))

  pub row_counted : rows_word (row_added w i j r) i ≡ rows_word w i + 1
  unfolding type_word row_added
  row_counted = rw (lt-ltb i 64 h) (get_or-set_same (paste w (1024 + 8 * j) r 8) (16 * i + 10) _ 0 (omega (arith, long)))
