-- What a column is, by its tab and its field. Assumes nothing.
use borrow.Author.Rules.{rules}
use borrow.Author.Tests.{ltb-true, ltb-false, eqb-true}
use mathlib.Core.Path.{◌≡◌, refl, sym, ap, ◌∙◌}
use mathlib.Core.Bool.{Bool, true, false, cond, not}
use mathlib.Core.List.{List}
use mathlib.Core.Option.{Option, none, some}
use Rattle.std.specs.Prelude.{Some, None}
use Rattle.std.specs.Prelude as std
use Prim.Native.Nat.{ℕ, ◌+◌, ◌-◌, ◌*◌, ◌<◌, ◌^◌}
use native.Mathlib.Omega.{arith}
use mir.Val.{Fits}
use mir.Syntax.{w64}
use lib.Dec.{ltb}
use lib.ListN.{length, get_or, take, drop, get_or-eq_default}
use lib.IntN.{ℤ, pos, negsuc}
use Rattle.bits.specs.declared.Order.{Order}
use Rattle.bits.specs.declared.Order.TheVariants.{LE, BE}
use Rattle.layout.specs.declared.Pad.{Pad}
use Rattle.layout.specs.declared.Pad.TheVariants.{Zero, One, Keep}
use Rattle.datatype.specs.declared.Word.{Word}
use Rattle.datatype.specs.declared.Word.TheVariants.{Silent, Clamp, Stop}
use Rattle.text.specs.Field.{when, ◌>>=◌, number, enum_number, is_name, name}
use Rattle.text.specs.Place.{field_at, field_end, byte_at, tab_at, newline_at, same_bytes, as_field, number_at, as_name, name_at, as_whole, whole_at}
use Rattle.text.specs.declared.Field.{Field}
use Rattle.text.specs.declared.Whole.{Whole}
use Rattle.text.proofs.Places.{field_bytes}
use Rattle.text.specs.Text.{bytes}
use Rattle.line.specs.Line.{word, no_word, order, pad, sign, member_word}
use Rattle.line.specs.Column.{column_at, optional_at, next_at, holdable, whole_number, found_whole}

-- a byte that is not 0 stands inside the text
pub byte_inside : (s : List ℕ) (q b : ℕ) → 0 < b → byte_at s q b ≡ true → q < length s
byte_inside s q b p h = go (ltb q (length s)) refl where
  go : (x : Bool) → ltb q (length s) ≡ x → q < length s
  go true e = ltb-true q (length s) e
  go false e = absurd (omega (arith, eqb-true (get_or s q 0) b h, get_or-eq_default s 0 (ltb-false q (length s) e)))

pub not-true : (t : Bool) → not t ≡ true → t ≡ false
not-true true h = let z : ◌≡◌ {A = ℕ} 0 1 = cc in absurd (omega arith)
not-true false h = refl

pub not-false : (t : Bool) → not t ≡ false → t ≡ true
not-false true h = refl
not-false false h = let z : ◌≡◌ {A = ℕ} 0 1 = cc in absurd (omega arith)

-- ---- the end of a line

module _ (s : List ℕ) (q : ℕ) (t : Bool) (newline : t ≡ newline_at s q) where
  pub next_none : t ≡ false → None ≡ next_at s q
  unfolding next_at
  next_none h = simp (← newline, h)

  module _ (h : t ≡ true) where
    pub next_some : Some (q + 1) ≡ next_at s q
    unfolding next_at
    next_some = simp (← newline, h)

    pub next_fits : length s * 1 < 2 ^ 63 → Fits w64 (q + 1)
    next_fits l = record { fits = omega (arith, byte_inside s q 10 (omega arith) (sym newline ∙ h)) }

pub ruleset next_laws = (rules, next_none, next_some, next_fits)

-- ---- what the readers' answers say of a field

whole_given : (o : Option ℤ) (e : ℕ) → found_whole (as_whole o e) ≡ as_field (o >>= λ z. when (holdable z) z) e
whole_given none e = refl
whole_given (some (pos n)) e =
    elim (ltb n (2 ^ 64)) as (λ x. found_whole (cond x (Some (record { value = record { negative = false; distance = n }; end = e })) None) ≡ as_field (when x (pos n)) e)
    [ true ↦ refl | false ↦ refl ]
whole_given (some (negsuc n)) e =
    elim (ltb n (2 ^ 63)) as (λ x. found_whole (cond x (Some (record { value = record { negative = true; distance = n }; end = e })) None) ≡ as_field (when x (negsuc n)) e)
    [ true ↦ refl | false ↦ refl ]

name_none : (o : Option (List ℕ)) (e : ℕ) → None ≡ as_name o e → None ≡ as_field o e
name_none none e h = refl
name_none (some f) e h = let z : ◌≡◌ {A = ℕ} 0 1 = cc in absurd (omega arith)

name_some : (t : Bool) (f : List ℕ) (n e : ℕ) → Some e ≡ as_name (when t f) n → (Some (record { value = f; end = e }) ≡ as_field (when t f) n) × (n ≡ e)
name_some true f n e h = let z : n ≡ e = cc in (ap (λ (m : ℕ). Some (record { value = f; end = m })) (sym z), z)
name_some false f n e h = let z : ◌≡◌ {A = ℕ} 0 1 = cc in absurd (omega arith)

-- ---- by the tab

module _ (s : List ℕ) (q : ℕ) (t : Bool) (tab : t ≡ tab_at s q) where
  pub no_column : {A : Type 0} (read : List ℕ → Option A) → not t ≡ true → None ≡ column_at read s q
  unfolding column_at
  no_column read h = simp (← tab, not-true t h)

  module _ (h : not t ≡ false) where
    tab_here : tab_at s q ≡ true
    tab_here = sym tab ∙ not-false t h

    pub tab_inside : q < length s
    tab_inside = byte_inside s q 9 (omega arith) tab_here

    pub place_fits : length s * 1 < 2 ^ 63 → Fits w64 (q + 1)
    place_fits l = record { fits = omega (arith, tab_inside) }

    column_here : {A : Type 0} (read : List ℕ → Option A) → as_field (read (field_at s (q + 1))) (field_end s (q + 1)) ≡ column_at read s q
    unfolding column_at
    column_here read = simp tab_here

    pub number_column : (r : std.Option (Field ℕ)) → r ≡ number_at s (q + 1) → r ≡ column_at number s q
    unfolding number_at
    number_column r is = is ∙ column_here number

    pub whole_column : (r : std.Option (Field Whole)) → r ≡ whole_at s (q + 1) → found_whole r ≡ column_at whole_number s q
    unfolding whole_at whole_number
    whole_column r is = rw is (whole_given (enum_number (field_at s (q + 1))) (field_end s (q + 1)) ∙ column_here whole_number)

    pub name_column_fault : None ≡ name_at s (q + 1) → None ≡ column_at name s q
    unfolding name_at
    name_column_fault f = name_none (name (field_at s (q + 1))) (field_end s (q + 1)) f ∙ column_here name

    pub name_column : (e : ℕ) → Some e ≡ name_at s (q + 1) → Some (record { value = take (e - (q + 1)) (drop (q + 1) s); end = e }) ≡ column_at name s q
    unfolding name_at name
    name_column e f =
        let l = field_at s (q + 1) in
        let p = name_some (is_name l) l (field_end s (q + 1)) e f in
        let z : e - (q + 1) ≡ length l = omega (arith, p.1) in
        ap (λ (n : ℕ). Some (record { value = take n (drop (q + 1) s); end = e })) z
        ∙ ap (λ (x : List ℕ). Some (record { value = x; end = e })) (sym (field_bytes s (q + 1)))
        ∙ p.0
        ∙ column_here name

    -- ---- words

    pub order_column : (x : std.Option (Field Order))
        → x ≡ as_field (word (bytes "LE") LE (word (bytes "BE") BE no_word) (field_at s (q + 1))) (field_end s (q + 1)) → x ≡ column_at order s q
    unfolding order
    order_column x is = is ∙ column_here order

    pub pad_column : (x : std.Option (Field Pad))
        → x ≡ as_field (word (bytes "zero") Zero (word (bytes "one") One (word (bytes "keep") Keep no_word)) (field_at s (q + 1))) (field_end s (q + 1))
        → x ≡ column_at pad s q
    unfolding pad
    pad_column x is = is ∙ column_here pad

    pub sign_column : (x : std.Option (Field Bool))
        → x ≡ as_field (word (bytes "signed") true (word (bytes "unsigned") false no_word) (field_at s (q + 1))) (field_end s (q + 1)) → x ≡ column_at sign s q
    unfolding sign
    sign_column x is = is ∙ column_here sign

    pub word_column : (x : std.Option (Field Word))
        → x ≡ as_field (word (bytes "clamp") Clamp (word (bytes "stop") Stop no_word) (field_at s (q + 1))) (field_end s (q + 1)) → x ≡ optional_at member_word Silent s q
    unfolding member_word optional_at
    word_column x is = is ∙ simp tab_here

  -- a column that the line does not have
  pub word_absent : not t ≡ true → Some (record { value = Silent; end = q }) ≡ optional_at member_word Silent s q
  unfolding optional_at
  word_absent h = simp (← tab, not-true t h)

module _ {A : Type 0} (f w : List ℕ) (b : Bool) (same : b ≡ same_bytes f w) (a : A) (o : Option A) (e n : ℕ) where
  pub word_is : b ≡ true → e ≡ n → Some (record { value = a; end = e }) ≡ as_field (cond (same_bytes f w) (some a) o) n
  word_is h ends = rw ends (simp (← same, h))

  pub word_not : (x : std.Option (Field A)) → b ≡ false → x ≡ as_field o n → x ≡ as_field (cond (same_bytes f w) (some a) o) n
  word_not x h is = simp (← same, h) is

pub ruleset column_laws = (rules, place_fits, no_column, number_column, whole_column, name_column_fault, name_column)

pub ruleset word_laws = (rules, place_fits, no_column, order_column, pad_column, sign_column, word_column, word_absent, word_is, word_not)
