-- What a line says from a place on, column by column. Assumes nothing.
use borrow.Author.Tests.{eqb-true, ne_eqb, leb-true, le-leb, lt-ltb}
use mathlib.Core.Path.{◌≡◌, refl, sym, ap, ◌∙◌}
use mathlib.Core.Bool.{Bool, true, false, cond, ◌&&◌}
use mathlib.Core.List.{List, [], ◌∷◌}
use mathlib.Core.Option.{Option, none, some}
use Rattle.std.specs.Prelude.{Some, None, option_map}
use Rattle.std.specs.Prelude as std
use Prim.Native.Nat.{ℕ, ◌+◌, ◌-◌, ◌<◌, ◌≤◌, min}
use native.Mathlib.Omega.{arith}
use lib.Dec.{leb}
use lib.IntN.{ℤ}
use lib.ListN.{length, get_or, take, drop, length-take, length-drop}
use Rattle.bits.specs.declared.Order.{Order}
use Rattle.layout.specs.declared.Class.{Class}
use Rattle.layout.specs.declared.Class.TheVariants.{Int, Bits}
use Rattle.layout.specs.declared.Pad.{Pad}
use Rattle.layout.specs.declared.Layout.{Layout}
use Rattle.number.specs.Parts.{signed_by}
use Rattle.text.specs.declared.Whole.{Whole}
use Rattle.text.specs.declared.Field.{Field}
use Rattle.text.specs.Field.{when, ◌>>=◌, number, enum_number, each_printable, name}
use Rattle.text.specs.Place.{field_at, field_end, line_end, tab_at, newline_at, fields_after, as_field}
use Rattle.text.proofs.Places.{field_length, fields_at, line_end_last, line_end_tab}
use Rattle.line.specs.Line as said
use Rattle.line.specs.Line.{Fields, column, optional, ends, order, pad, sign, layout, layout_columns, int_line, bits_line, value_line_of}
use Rattle.line.specs.Line.Line.{atomic_line, value_line}
use Rattle.line.specs.Column.{column_at, optional_at, on_found, next_at, holdable, whole_number, found_whole, found_name, layout_at, signed_as}
use Rattle.line.specs.Read.{readable, Reading, reading_to, rest_end, columns_reading, name_within, names_within, reading, plain_line, Reads}
use Rattle.line.specs.Read.Reading.{reads, faulty}
use Rattle.line.specs.declared.Line.{Line}
use Rattle.line.specs.declared.Name.{Name}
use Rattle.line.specs.declared.ReadLine.{ReadLine}
use Rattle.line.proofs.Columns.{byte_inside}
use Rattle.line.proofs.Answers as a

-- ---- where a line ends

module _ (s : List ℕ) (q : ℕ) where
  pub next_at_lem : (n : ℕ) → Some n ≡ next_at s q → (newline_at s q ≡ true) × (n ≡ q + 1)
  unfolding next_at
  next_at_lem n h = go (newline_at s q) h where
    go : (t : Bool) → Some n ≡ cond t (Some (q + 1)) None → (t ≡ true) × (n ≡ q + 1)
    go true g = (refl, cc)
    go false g = let z : ◌≡◌ {A = ℕ} 0 1 = cc in absurd (omega arith)

  pub no_next : None ≡ next_at s q → newline_at s q ≡ false
  unfolding next_at
  no_next h = go (newline_at s q) h where
    go : (t : Bool) → None ≡ cond t (Some (q + 1)) None → t ≡ false
    go true g = let z : ◌≡◌ {A = ℕ} 0 1 = cc in absurd (omega arith)
    go false g = refl

  pub no_tab : newline_at s q ≡ true → tab_at s q ≡ false
  no_tab b =
      let z : get_or s q 0 ≡ 10 = eqb-true (get_or s q 0) 10 b in
      ne_eqb (get_or s q 0) 9 (λ (y : get_or s q 0 ≡ 9). omega arith)

pub line_end_lem : (s : List ℕ) (at : ℕ) → line_end s at ≡ rest_end s (field_end s at)
line_end_lem s at = go (tab_at s (field_end s at)) refl where
  go : (t : Bool) → tab_at s (field_end s at) ≡ t → line_end s at ≡ cond t (line_end s (field_end s at + 1)) (field_end s at)
  go true e = line_end_tab s at e
  go false e = line_end_last s at e

pub reading_none : (s : List ℕ) (e : ℕ) → faulty ≡ reading_to s e none
unfolding reading_to
reading_none s e = elim (newline_at s e) as (λ t. faulty ≡ cond t faulty faulty) [ true ↦ refl | false ↦ refl ]

module _ (s : List ℕ) (q : ℕ) where
  pub fields_none : tab_at s q ≡ false → fields_after s q ≡ []
  unfolding fields_after
  fields_none h = simp h

  pub fields_some : tab_at s q ≡ true → fields_after s q ≡ field_at s (q + 1) ∷ fields_after s (field_end s (q + 1))
  unfolding fields_after
  fields_some h = simp h (fields_at s (q + 1))

  -- ---- a column

  module _ {A : Type 0} (read : List ℕ → Option A) (rest : A → Fields → Option said.Line) where
    column_given : (o : Option A)
        → reading_to s (line_end s (q + 1)) (o >>= λ v. rest v (fields_after s (field_end s (q + 1))))
        ≡ on_found (as_field o (field_end s (q + 1))) (λ v n. columns_reading s n (rest v)) faulty
    unfolding on_found columns_reading
    column_given none = sym (reading_none s (line_end s (q + 1)))
    column_given (some v) = ap (λ (e : ℕ). reading_to s e (rest v (fields_after s (field_end s (q + 1))))) (line_end_lem s (q + 1))

    column_tab : (t : Bool) → tab_at s q ≡ t → columns_reading s q (column read rest) ≡ on_found (column_at read s q) (λ v n. columns_reading s n (rest v)) faulty
    unfolding columns_reading column_at column on_found
    column_tab true h = rw (fields_some h) (simp h (column_given (read (field_at s (q + 1)))))
    column_tab false h = rw (fields_none h) (simp h (sym (reading_none s q)))

  module _ {A : Type 0} (read : List ℕ → Option A) (rest : A → Fields → Option said.Line) where
    pub column_reading : columns_reading s q (column read rest) ≡ on_found (column_at read s q) (λ v n. columns_reading s n (rest v)) faulty
    column_reading = column_tab read rest (tab_at s q) refl

    pub column_is : (x : Reading) → x ≡ on_found (column_at read s q) (λ v n. columns_reading s n (rest v)) faulty → x ≡ columns_reading s q (column read rest)
    column_is x h = h ∙ sym column_reading

    -- what is read by way of another answer
    column_into : {C : Type 0} (F : C → Reading) (bad : C) (k : A → ℕ → C) → F bad ≡ faulty → ((v : A) (n : ℕ) → columns_reading s n (rest v) ≡ F (k v n))
        → columns_reading s q (column read rest) ≡ F (on_found (column_at read s q) k bad)
    unfolding on_found
    column_into F bad k e h = column_reading ∙ go (column_at read s q) where
      go : (g : std.Option (Field A)) → on_found g (λ v n. columns_reading s n (rest v)) faulty ≡ F (on_found g k bad)
      go (Some f) = h f.value f.end
      go None = sym e

  -- ---- a column that the line may have

  module _ {A : Type 0} (read : List ℕ → Option A) (absent : A) (rest : A → Fields → Option said.Line) where
    optional_tab : (t : Bool) → tab_at s q ≡ t
        → columns_reading s q (optional read absent rest) ≡ on_found (optional_at read absent s q) (λ v n. columns_reading s n (rest v)) faulty
    unfolding columns_reading optional_at optional column on_found
    optional_tab true h = rw (fields_some h) (simp h (column_given read rest (read (field_at s (q + 1)))))
    optional_tab false h = rw (fields_none h) (simp h (rw (fields_none h) refl))

    pub optional_is : (x : Reading) → x ≡ on_found (optional_at read absent s q) (λ v n. columns_reading s n (rest v)) faulty
        → x ≡ columns_reading s q (optional read absent rest)
    optional_is x h = h ∙ sym (optional_tab (tab_at s q) refl)

  -- ---- the end of a line

  module _ (l : said.Line) where
    line_goes_on : (t : Bool) → tab_at s q ≡ t → newline_at s q ≡ false → faulty ≡ columns_reading s q (ends l)
    unfolding columns_reading reading_to
    line_goes_on true e b = rw (fields_some e) (reading_none s (rest_end s q))
    line_goes_on false e b = rw (fields_none e) (simp (e, b))

    line_done : newline_at s q ≡ true → readable l ≡ true → reads l (q + 1) ≡ columns_reading s q (ends l)
    unfolding columns_reading reading_to
    line_done b r =
        let n : tab_at s q ≡ false = no_tab s q b in
        rw (fields_none n) (simp (n, b, r))

    module _ (x : Reading) where
      pub line_ends : (n : ℕ) → Some n ≡ next_at s q → readable l ≡ true → x ≡ reads l n → x ≡ columns_reading s q (ends l)
      line_ends n e r h =
          let p = next_at_lem s q n e in
          h ∙ ap (reads l) p.1 ∙ line_done p.0 r

      pub line_not_ended : None ≡ next_at s q → x ≡ faulty → x ≡ columns_reading s q (ends l)
      line_not_ended e h = h ∙ line_goes_on (tab_at s q) refl (no_next s q e)

-- ---- an int and a bits

module _ (s : List ℕ) (q : ℕ) (class : Class) (rest : (Bool → Layout) → Fields → Option said.Line) (K : Layout → ℕ → Reading) where
  layout_reading : ((z : ℕ) (o : Order) (at p : ℕ) (lsb msb : Pad) (n : ℕ)
      → columns_reading s n (rest (layout class z o at p lsb msb)) ≡ K (layout class z o at p lsb msb false) n)
      → columns_reading s q (layout_columns class rest) ≡ on_found (layout_at class s q) K faulty
  unfolding layout_columns layout_at on_found
  layout_reading h =
      let F : std.Option (Field Layout) → Reading = λ c. on_found c K faulty in
      column_into s q number _ F None _ refl
      (λ z a. column_into s a order _ F None _ refl
      (λ o b. column_into s b number _ F None _ refl
      (λ at c. column_into s c number _ F None _ refl
      (λ p d. column_into s d pad _ F None _ refl
      (λ lsb e. column_into s e pad _ F None _ refl
      (λ msb n. h z o at p lsb msb n))))))

module _ (s : List ℕ) (q : ℕ) (x : Reading) where
  pub int_is : x ≡ on_found (layout_at Int s q) (λ l n. columns_reading s n (column sign λ b. ends (atomic_line (signed_as l b)))) faulty → x ≡ columns_reading s q int_line
  unfolding int_line
  int_is h = h ∙ sym (layout_reading s q Int _ _ (λ z o at p lsb msb n. refl))

  pub bits_is : x ≡ on_found (layout_at Bits s q) (λ l n. columns_reading s n (ends (atomic_line l))) faulty → x ≡ columns_reading s q bits_line
  unfolding bits_line
  bits_is h = h ∙ sym (layout_reading s q Bits _ _ (λ z o at p lsb msb n. refl))

-- ---- a value

module _ (s : List ℕ) (x : List ℕ) (e : ℕ) where
  value_held : (b : Bool) (z : ℤ) (fs : Fields) → holdable z ≡ b
      → reading_to s e (ends (value_line x z) fs) ≡ reading_to s e (when b z >>= λ z. ends (value_line x z) fs)
  unfolding reading_to
  value_held true z fs h = refl
  value_held false z [] h = simp h
  value_held false z (f ∷ fs) h = refl

  value_number : (o : Option ℤ) (fs : Fields)
      → reading_to s e (o >>= λ z. ends (value_line x z) fs) ≡ reading_to s e ((o >>= λ z. when (holdable z) z) >>= λ z. ends (value_line x z) fs)
  value_number none fs = refl
  value_number (some z) fs = value_held (holdable z) z fs refl

  value_fields : (fs : Fields) → reading_to s e (column enum_number (λ z. ends (value_line x z)) fs) ≡ reading_to s e (column whole_number (λ z. ends (value_line x z)) fs)
  unfolding column whole_number
  value_fields [] = refl
  value_fields (f ∷ fs) = value_number (enum_number f) fs

module _ (s : List ℕ) (e : ℕ) where
  value_named : (o : Option (List ℕ)) (fs : Fields)
      → reading_to s e (o >>= λ x. column enum_number (λ z. ends (value_line x z)) fs) ≡ reading_to s e (o >>= λ x. column whole_number (λ z. ends (value_line x z)) fs)
  value_named none fs = refl
  value_named (some x) fs = value_fields s x e fs

  value_line_lem : (fs : Fields) → reading_to s e (value_line_of fs) ≡ reading_to s e (column name (λ x. column whole_number λ z. ends (value_line x z)) fs)
  unfolding value_line_of column
  value_line_lem [] = refl
  value_line_lem (f ∷ fs) = value_named (name f) fs

pub value_is : (s : List ℕ) (q : ℕ) (r : Reading) → r ≡ columns_reading s q (column name λ x. column whole_number λ z. ends (value_line x z)) → r ≡ columns_reading s q value_line_of
unfolding columns_reading
value_is s q r h = h ∙ sym (value_line_lem s (rest_end s q) (fields_after s q))

-- ---- what a column that was found holds

given_found : {A : Type 0} (o : Option A) (e : ℕ) (f : Field A) → Some f ≡ as_field o e → (o ≡ some f.value) × (e ≡ f.end)
given_found none e f h = let z : ◌≡◌ {A = ℕ} 0 1 = cc in absurd (omega arith)
given_found {A} (some a) e f h =
    let z : f ≡ record { value = a; end = e } = cc in
    (ap (λ (x : Field A). some x.value) (sym z), ap (λ (x : Field A). x.end) (sym z))

module _ {A : Type 0} (read : List ℕ → Option A) (s : List ℕ) (q : ℕ) (f : Field A) where
  found_here : (t : Bool) → tab_at s q ≡ t → Some f ≡ cond t (as_field (read (field_at s (q + 1))) (field_end s (q + 1))) None
      → (q < length s) × (read (field_at s (q + 1)) ≡ some f.value) × (field_end s (q + 1) ≡ f.end)
  found_here true e h =
      let g = given_found (read (field_at s (q + 1))) (field_end s (q + 1)) f h in
      (byte_inside s q 9 (omega arith) e, g.0, g.1)
  found_here false e h = let z : ◌≡◌ {A = ℕ} 0 1 = cc in absurd (omega arith)

  column_found : Some f ≡ column_at read s q → (q < length s) × (read (field_at s (q + 1)) ≡ some f.value) × (field_end s (q + 1) ≡ f.end)
  unfolding column_at
  column_found h = found_here (tab_at s q) refl h

held : (o : Option ℤ) (z : ℤ) → (o >>= λ y. when (holdable y) y) ≡ some z → holdable z ≡ true
held none z h = let e : ◌≡◌ {A = ℕ} 0 1 = cc in absurd (omega arith)
held (some y) z h = go (holdable y) refl h where
  go : (t : Bool) → holdable y ≡ t → when t y ≡ some z → holdable z ≡ true
  go true e g = let p : y ≡ z = cc in ap holdable (sym p) ∙ e
  go false e g = let p : ◌≡◌ {A = ℕ} 0 1 = cc in absurd (omega arith)

pub value_readable : (s : List ℕ) (q : ℕ) (x : List ℕ) (f : Field Whole) → found_whole (Some f) ≡ column_at whole_number s q
    → readable (value_line x (signed_by f.value.negative f.value.distance)) ≡ true
unfolding whole_number
value_readable s q x f is =
    held (enum_number (field_at s (q + 1))) (signed_by f.value.negative f.value.distance)
    (column_found whole_number s q (record { value = signed_by f.value.negative f.value.distance; end = f.end }) is).1

-- ---- where a name lies

name_length : (f : List ℕ) (x : List ℕ) (t u v : Bool) → leb 1 (length f) ≡ t → leb (length f) 31 ≡ u → when (t && u && v) f ≡ some x
    → (f ≡ x) × (1 ≤ length f) × (length f ≤ 31)
name_length f x true true true e g h = (cc, leb-true 1 (length f) e, leb-true (length f) 31 g)
name_length f x true true false e g h = let z : ◌≡◌ {A = ℕ} 0 1 = cc in absurd (omega arith)
name_length f x true false v e g h = let z : ◌≡◌ {A = ℕ} 0 1 = cc in absurd (omega arith)
name_length f x false u v e g h = let z : ◌≡◌ {A = ℕ} 0 1 = cc in absurd (omega arith)

pub name_within_lem : (s : List ℕ) (q : ℕ) (f : Name) → found_name s (Some f) ≡ column_at name s q → name_within s f.start f.end ≡ true
unfolding name_within name
name_within_lem s q f is =
    let a = f.start in
    let e = f.end in
    let x = take (e - a) (drop a s) in
    let l = field_at s (q + 1) in
    let c = column_found name s q (record { value = x; end = e }) is in
    let n = name_length l x (leb 1 (length l)) (leb (length l) 31) (each_printable l) refl refl c.1 in
    let m : length l ≡ min (e - a) (length s - a) = ap length n.0 ∙ length-take (e - a) (drop a s) ∙ ap (min (e - a)) (length-drop a s) in
    let b = field_length s (q + 1) in
    let end : e ≤ length s = omega (arith, c.0, c.2) in
    let low : a < e = omega (arith, n.1, n.2) in
    let high : e ≤ a + 31 = omega (arith, n.1, n.2) in
    simp (lt-ltb a e low, le-leb e (a + 31) high, le-leb e (length s) end)

-- ---- an answer

module _ (s : List ℕ) (r : std.Option ReadLine) (x : Reading) where
  pub reads_by : reading s r ≡ x → names_within s r ≡ true → Reads s r x
  reads_by h n = record { tells = h; within = n }

pub reads_nothing : (s : List ℕ) (l : std.Option Line) (x : Reading) → l ≡ None → faulty ≡ x → Reads s (option_map plain_line l) x
reads_nothing s l x e h = rw e (record { tells = h; within = refl })

pub atomic_reads : (l m : Layout) (n : ℕ) → l ≡ m → reads (atomic_line l) n ≡ reads (atomic_line m) n
atomic_reads l m n e = rw e

pub ruleset line_laws = (a.on_laws, column_is, optional_is, line_ends, line_not_ended, int_is, bits_is, value_is, value_readable, name_within_lem, reads_by, reads_nothing, atomic_reads)
