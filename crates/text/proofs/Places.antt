-- The fields and the lines of a text, by the place where each starts. Assumes nothing.
use mathlib.Core.Path.{◌≡◌, refl, ap, ◌∙◌}
use mathlib.Core.Bool.{Bool, true, false, cond, ◌||◌}
use mathlib.Core.List.{List, [], ◌∷◌, ◌++◌, append-nil}
use Prim.Native.Nat.{ℕ, suc, ◌+◌, ◌-◌, ◌<◌, ◌≤◌}
use native.Mathlib.Omega.{arith}
use borrow.Author.Tests.{ltb-true, ltb-false, eqb-true}
use lib.Dec.{eqb, ltb}
use lib.ListN.{length, get_or, take, drop, length-append, length-drop, drop_of_length-le, get_or-eq_default}
use lib.Seq.{drop-drop, get_or-drop}
use Rattle.text.specs.Text.{tab, newline, split, before}
use Rattle.text.specs.Place.{until, ends_field, ends_line, field_at, line_at, field_end, line_end, tab_at, newline_at, fields_after, lines_after}
use Rattle.text.proofs.Until as u

-- ---- the field at a place

module _ (s : List ℕ) (at : ℕ) where
  pub field_past : length s ≤ at → field_at s at ≡ []
  unfolding field_at
  field_past = u.past ends_field s at

  pub field_stop : at < length s → ends_field (get_or s at 0) ≡ true → field_at s at ≡ []
  unfolding field_at
  field_stop = u.halts ends_field s at

  pub field_more : at < length s → ends_field (get_or s at 0) ≡ false → field_at s at ≡ get_or s at 0 ∷ field_at s (at + 1)
  unfolding field_at
  field_more = u.more ends_field s at

  -- where something stands in the field: its first byte, and the field from the next place on
  pub field_inside : 0 < length (field_at s at) → (at < length s) × (field_at s at ≡ get_or s at 0 ∷ field_at s (at + 1))
  unfolding field_at
  field_inside = u.inside ends_field s at

  pub field_length : length (field_at s at) ≤ length s - at
  unfolding field_at
  field_length = rw (← length-drop at s) (u.within ends_field (drop at s))

  -- the field is the bytes of the text from its place up to its end
  pub field_bytes : field_at s at ≡ take (length (field_at s at)) (drop at s)
  unfolding field_at
  field_bytes = u.front ends_field (drop at s)

  pub field_clean : (k : ℕ) → k < length (field_at s at) → ends_field (get_or (field_at s at) k 0) ≡ false
  unfolding field_at
  field_clean = u.clean ends_field (drop at s)

  pub field_end_byte : field_end s at < length s → ends_field (get_or s (field_end s at) 0) ≡ true
  unfolding field_at
  field_end_byte h =
      rw (← get_or-drop at s (length (until ends_field (drop at s))) 0) (u.stops ends_field (drop at s) (rw length-drop (omega arith)))

  -- ---- the line at a place

  pub line_past : length s ≤ at → line_at s at ≡ []
  unfolding line_at
  line_past = u.past ends_line s at

  pub line_length : length (line_at s at) ≤ length s - at
  unfolding line_at
  line_length = rw (← length-drop at s) (u.within ends_line (drop at s))

  pub line_end_byte : line_end s at < length s → newline_at s (line_end s at) ≡ true
  unfolding line_at
  line_end_byte h =
      rw (← get_or-drop at s (length (until ends_line (drop at s))) 0) (u.stops ends_line (drop at s) (rw length-drop (omega arith)))

-- ---- the fields of a line, and the lines of a text

-- the fields behind one, where the text goes on with t
behind : List ℕ → List (List ℕ)
behind [] = []
behind (b ∷ bs) = cond (eqb b tab) (split tab (until ends_line bs)) []

byte_fields : (b : ℕ) (bs : List ℕ) (x y : Bool) → eqb b tab ≡ x → eqb b newline ≡ y
    → split tab (until ends_line bs) ≡ until ends_field bs ∷ behind (drop (length (until ends_field bs)) bs)
    → split tab (cond y [] (b ∷ until ends_line bs))
    ≡ cond (x || y) [] (b ∷ until ends_field bs) ∷ behind (drop (length (cond (x || y) [] (b ∷ until ends_field bs))) (b ∷ bs))
unfolding split behind
byte_fields b bs true true e f h = let z : ◌≡◌ {A = ℕ} 0 1 = omega (arith, eqb-true b tab e, eqb-true b newline f) in absurd (omega arith)
byte_fields b bs true false e f h = simp e
byte_fields b bs false true e f h = simp e
byte_fields b bs false false e f h = simp (e, h)

list_fields : (t : List ℕ) → split tab (until ends_line t) ≡ until ends_field t ∷ behind (drop (length (until ends_field t)) t)
unfolding split behind until
list_fields [] = refl
list_fields (b ∷ bs) = byte_fields b bs (eqb b tab) (eqb b newline) refl refl (list_fields bs)

place_behind : (s : List ℕ) (q : ℕ) (x : Bool) → ltb q (length s) ≡ x → behind (drop q s) ≡ fields_after s q
unfolding behind fields_after line_at
place_behind s q true e = simp (u.drop_next s q (ltb-true q (length s) e))
place_behind s q false e = simp (drop_of_length-le s (ltb-false q (length s) e), get_or-eq_default s 0 (ltb-false q (length s) e))

module _ (s : List ℕ) (at : ℕ) where
  -- the fields of a line: the first, and those behind it
  pub fields_at : split tab (line_at s at) ≡ field_at s at ∷ fields_after s (field_end s at)
  unfolding line_at field_at
  fields_at =
      list_fields (drop at s)
      ∙ ap (λ (m : List (List ℕ)). until ends_field (drop at s) ∷ m)
      (ap behind (drop-drop (length (until ends_field (drop at s))) at s) ∙ place_behind s (field_end s at) (ltb (field_end s at) (length s)) refl)

-- the lines behind one, where the text goes on with t
below : List ℕ → List (List ℕ)
below [] = []
below (b ∷ bs) = split newline bs

byte_lines : (b : ℕ) (bs : List ℕ) (x : Bool) → split newline bs ≡ until ends_line bs ∷ below (drop (length (until ends_line bs)) bs)
    → cond x ([] ∷ split newline bs) (before b (split newline bs))
    ≡ cond x [] (b ∷ until ends_line bs) ∷ below (drop (length (cond x [] (b ∷ until ends_line bs))) (b ∷ bs))
unfolding below
byte_lines b bs true h = refl
byte_lines b bs false h = simp h

list_lines : (t : List ℕ) → split newline t ≡ until ends_line t ∷ below (drop (length (until ends_line t)) t)
unfolding split below until
list_lines [] = refl
list_lines (b ∷ bs) = byte_lines b bs (eqb b newline) (list_lines bs)

place_below : (s : List ℕ) (q : ℕ) (x : Bool) → ltb q (length s) ≡ x → below (drop q s) ≡ lines_after s q
unfolding below lines_after
place_below s q true e = simp (u.drop_next s q (ltb-true q (length s) e), e)
place_below s q false e = simp (drop_of_length-le s (ltb-false q (length s) e), e)

-- a line is its first field and, where a tab follows, the tab and the line from there on
onward : List ℕ → List ℕ
onward [] = []
onward (b ∷ bs) = cond (eqb b tab) (b ∷ until ends_line bs) []

byte_line : (b : ℕ) (bs : List ℕ) (x y : Bool) → eqb b tab ≡ x → eqb b newline ≡ y
    → until ends_line bs ≡ until ends_field bs ++ onward (drop (length (until ends_field bs)) bs)
    → cond y [] (b ∷ until ends_line bs)
    ≡ cond (x || y) [] (b ∷ until ends_field bs) ++ onward (drop (length (cond (x || y) [] (b ∷ until ends_field bs))) (b ∷ bs))
unfolding onward
byte_line b bs true true e f h = let z : ◌≡◌ {A = ℕ} 0 1 = omega (arith, eqb-true b tab e, eqb-true b newline f) in absurd (omega arith)
byte_line b bs true false e f h = simp e
byte_line b bs false true e f h = simp e
byte_line b bs false false e f h = ap (λ (l : List ℕ). b ∷ l) h

list_line : (t : List ℕ) → until ends_line t ≡ until ends_field t ++ onward (drop (length (until ends_field t)) t)
unfolding onward until
list_line [] = refl
list_line (b ∷ bs) = byte_line b bs (eqb b tab) (eqb b newline) refl refl (list_line bs)

module _ (s : List ℕ) (at : ℕ) where
  -- the lines of a text: the first, and those behind it
  pub lines_at : split newline (drop at s) ≡ line_at s at ∷ lines_after s (line_end s at)
  unfolding line_at
  lines_at =
      list_lines (drop at s)
      ∙ ap (λ (m : List (List ℕ)). until ends_line (drop at s) ∷ m)
      (ap below (drop-drop (length (until ends_line (drop at s))) at s) ∙ place_below s (line_end s at) (ltb (line_end s at) (length s)) refl)

  line_parts : line_at s at ≡ field_at s at ++ onward (drop (field_end s at) s)
  unfolding line_at field_at
  line_parts =
      list_line (drop at s) ∙ ap (λ (l : List ℕ). until ends_field (drop at s) ++ onward l) (drop-drop (length (until ends_field (drop at s))) at s)

  onward_past : length s ≤ field_end s at → onward (drop (field_end s at) s) ≡ []
  unfolding onward
  onward_past h = simp (drop_of_length-le s h)

  onward_here : field_end s at < length s → onward (drop (field_end s at) s) ≡ cond (tab_at s (field_end s at)) (get_or s (field_end s at) 0 ∷ line_at s (field_end s at + 1)) []
  unfolding onward line_at
  onward_here h = simp (u.drop_next s (field_end s at) h)

  onward_last : (x : Bool) → ltb (field_end s at) (length s) ≡ x → tab_at s (field_end s at) ≡ false → onward (drop (field_end s at) s) ≡ []
  onward_last true e h = onward_here (ltb-true _ _ e) ∙ simp h
  onward_last false e h = onward_past (ltb-false _ _ e)

  onward_tab : (x : Bool) → ltb (field_end s at) (length s) ≡ x → tab_at s (field_end s at) ≡ true
      → onward (drop (field_end s at) s) ≡ get_or s (field_end s at) 0 ∷ line_at s (field_end s at + 1)
  onward_tab true e h = onward_here (ltb-true _ _ e) ∙ simp h
  onward_tab false e h =
      let z : get_or s (field_end s at) 0 ≡ 0 = get_or-eq_default s 0 (ltb-false _ _ e) in
      absurd (omega (arith, eqb-true (get_or s (field_end s at) 0) tab h))

  -- the last field of a line ends where the line ends
  pub line_end_last : tab_at s (field_end s at) ≡ false → line_end s at ≡ field_end s at
  line_end_last h =
      ap (λ (l : List ℕ). at + length l) (line_parts ∙ ap (λ (l : List ℕ). field_at s at ++ l) (onward_last (ltb (field_end s at) (length s)) refl h) ∙ append-nil (field_at s at))

  -- where a tab follows a field, the line ends where the rest of it ends
  pub line_end_tab : tab_at s (field_end s at) ≡ true → line_end s at ≡ line_end s (field_end s at + 1)
  line_end_tab h =
      let e : length (line_at s at) ≡ length (field_at s at) + suc (length (line_at s (field_end s at + 1))) =
      ap length (line_parts ∙ ap (λ (l : List ℕ). field_at s at ++ l) (onward_tab (ltb (field_end s at) (length s)) refl h))
      ∙ length-append (field_at s at) (get_or s (field_end s at) 0 ∷ line_at s (field_end s at + 1)) in
      omega arith
