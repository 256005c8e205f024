-- The dimensions of an array, one after the other. Assumes nothing.
use borrow.Author.Rules.{rules}
use borrow.Author.Tests.{ne_eqb, le-leb, lt-leb, lt-ltb, leb-true}
use mathlib.Core.Path.{◌≡◌, refl, sym, ap, ap₂, ◌∙◌}
use mathlib.Core.Bool.{Bool, true, false, ◌&&◌}
use mathlib.Core.List.{List, [], ◌∷◌, ◌++◌, append-nil}
use mathlib.Core.Option.{Option, none, some}
use Rattle.std.specs.Prelude.{Some, None}
use Rattle.std.specs.Prelude as std
use Prim.Native.Nat.{ℕ, zero, suc, ◌+◌, ◌-◌, ◌<◌, ◌≤◌}
use native.Mathlib.Numerals.{add-one}
use native.Mathlib.Omega.{arith}
use lib.Dec.{leb, ltb}
use lib.ListN.{length, get_or, take, drop, set, replicate, length-append, length-set, take-append-drop}
use lib.Seq.{take-suc-set, drop-set-lt, drop-cons, append_snoc, length-take-le}
use Rattle.datatype.specs.Datatype.{up_to_zero}
use Rattle.text.specs.Field.{◌>>=◌, number}
use Rattle.text.specs.Place.{field_at, field_end, tab_at, newline_at, fields_after}
use Rattle.text.specs.declared.Field.{Field}
use Rattle.line.specs.Line as said
use Rattle.line.specs.Line.{Fields, column, numbers, array_line_of}
use Rattle.line.specs.Line.Line.{array_line}
use Rattle.line.specs.Column.{column_at, next_at, on_found}
use Rattle.line.specs.Read.{readable, each_positive, Reading, reading_to, rest_end, columns_reading, Reads}
use Rattle.line.specs.Read.Reading.{reads, faulty}
use Rattle.line.specs.declared.Line.TheVariants.{Array}
use Rattle.line.proofs.Answers.{on_found_lem, on_missing}
use Rattle.line.proofs.Readings.{reading_none, next_at_lem, no_next, no_tab, fields_none, fields_some, column_reading, column_is}
use Rattle.line.proofs.FirstWords.{reads_none}

-- ---- lists of dimensions

and_parts : (t u : Bool) → (t && u) ≡ true → (t ≡ true) × (u ≡ true)
and_parts true u h = (refl, h)
and_parts false u h = let z : ◌≡◌ {A = ℕ} 0 1 = cc in absurd (omega arith)

positive_before : (ds ns : List ℕ) → each_positive (ds ++ (0 ∷ ns)) ≡ false
positive_before [] ns = refl
positive_before (d ∷ ds) ns = simp (positive_before ds ns) (elim (leb 1 d) as (λ t. (t && false) ≡ false) [ true ↦ refl | false ↦ refl ])

positive_more : (ds : List ℕ) (d : ℕ) → each_positive ds ≡ true → 1 ≤ d → each_positive (ds ++ (d ∷ [])) ≡ true
positive_more [] d h p = simp (le-leb 1 d p)
positive_more (c ∷ ds) d h p =
    let b = and_parts (leb 1 c) (each_positive ds) h in
    simp (b.0, positive_more ds d b.1 p)

up_to_zero_lem : (ds : List ℕ) (k : ℕ) → each_positive ds ≡ true → up_to_zero (ds ++ replicate k 0) ≡ ds
up_to_zero_lem [] zero h = refl
up_to_zero_lem [] (suc k) h = refl
up_to_zero_lem (d ∷ ds) k h =
    let b = and_parts (leb 1 d) (each_positive ds) h in
    simp (ne_eqb d 0 (λ (z : d ≡ 0). omega (arith, leb-true 1 d b.0)), up_to_zero_lem ds k b.1)

module _ (base : ℕ) where
  too_many : (ds : List ℕ) → 4 < length ds → readable (array_line base ds) ≡ false
  too_many ds h = simp (le-leb 1 (length ds) (omega arith), lt-leb (length ds) 4 h)

  with_zero : (ds ns : List ℕ) → readable (array_line base ((ds ++ (0 ∷ [])) ++ ns)) ≡ false
  with_zero ds ns = rw (append_snoc ds 0 ns, positive_before ds ns) (go (leb 1 (length (ds ++ (0 ∷ ns)))) (leb (length (ds ++ (0 ∷ ns))) 4)) where
    go : (t u : Bool) → (t && u && false) ≡ false
    go true true = refl
    go true false = refl
    go false u = refl

  good : (ds : List ℕ) → 1 ≤ length ds → length ds ≤ 4 → each_positive ds ≡ true → readable (array_line base ds) ≡ true
  good ds h l p = simp (le-leb 1 (length ds) h, le-leb (length ds) 4 l, p)

-- ---- the fields behind some dimensions

-- behind the dimensions ds of an array
unfoldable pub array_rest : ℕ → List ℕ → Fields → Option said.Line
array_rest base ds fs = numbers fs >>= λ ns. some (array_line base (ds ++ ns))

module _ (s : List ℕ) (e base : ℕ) (ds : List ℕ) where
  unreadable : readable (array_line base ds) ≡ false → reading_to s e (some (array_line base ds)) ≡ faulty
  unfolding reading_to
  unreadable h = simp h (sym (reading_none s e))

module _ (s : List ℕ) (q base : ℕ) (ds : List ℕ) where
  refused : ((ns : List ℕ) → readable (array_line base (ds ++ ns)) ≡ false) → columns_reading s q (array_rest base ds) ≡ faulty
  unfolding columns_reading array_rest
  refused h = go (numbers (fields_after s q)) where
    go : (o : Option (List ℕ)) → reading_to s (rest_end s q) (o >>= λ ns. some (array_line base (ds ++ ns))) ≡ faulty
    go none = sym (reading_none s (rest_end s q))
    go (some ns) = unreadable s (rest_end s q) base (ds ++ ns) (h ns)

  more_fields : (f : List ℕ) (fs : Fields) → array_rest base ds (f ∷ fs) ≡ column number (λ d. array_rest base (ds ++ (d ∷ []))) (f ∷ fs)
  unfolding array_rest column numbers
  more_fields f fs = go (number f) (numbers fs) where
    go : (o : Option ℕ) (p : Option (List ℕ))
        → ((o >>= λ n. p >>= λ ns. some (n ∷ ns)) >>= λ ns. some (array_line base (ds ++ ns))) ≡ (o >>= λ d. p >>= λ ns. some (array_line base ((ds ++ (d ∷ [])) ++ ns)))
    go none p = refl
    go (some n) none = refl
    go (some n) (some ns) = ap (λ (l : List ℕ). some (array_line base l)) (sym (append_snoc ds n ns))

-- where none was read yet, or the line goes on, another dimension must follow
module _ (s : List ℕ) (q base : ℕ) where
  unended : (ds : List ℕ) → (ltb 0 (length ds) && newline_at s q) ≡ false → reading_to s q (some (array_line base ds)) ≡ faulty
  unfolding reading_to
  unended [] h = unreadable s q base [] refl
  unended (d ∷ ds) h =
      let b : newline_at s q ≡ false = simp (lt-ltb 0 (suc (length ds)) (omega arith)) at h in
      simp b

  opened : (ds : List ℕ) (t : Bool) → tab_at s q ≡ t → (ltb 0 (length ds) && newline_at s q) ≡ false
      → columns_reading s q (array_rest base ds) ≡ columns_reading s q (column number (λ d. array_rest base (ds ++ (d ∷ []))))
  unfolding columns_reading array_rest column numbers
  opened ds true e h = rw (fields_some s q e) (ap (reading_to s (rest_end s q)) (more_fields s q base ds (field_at s (q + 1)) (fields_after s (field_end s (q + 1)))))
  opened ds false e h = rw (fields_none s q e) (simp (e, append-nil) (unended ds h ∙ reading_none s q))

  ended : (ds : List ℕ) → newline_at s q ≡ true → readable (array_line base ds) ≡ true → columns_reading s q (array_rest base ds) ≡ reads (array_line base ds) (q + 1)
  unfolding columns_reading array_rest numbers reading_to
  ended ds b r =
      let n : tab_at s q ≡ false = no_tab s q b in
      rw (fields_none s q n, append-nil ds) (simp (n, b, r))

  another : (ds : List ℕ) → (ltb 0 (length ds) && newline_at s q) ≡ false
      → columns_reading s q (array_rest base ds) ≡ on_found (column_at number s q) (λ d n. columns_reading s n (array_rest base (ds ++ (d ∷ [])))) faulty
  another ds h = opened ds (tab_at s q) refl h ∙ column_reading s q number (λ d. array_rest base (ds ++ (d ∷ [])))

-- ---- a turn of the loop

-- n dimensions were read into dims, and g is what the line says if it goes on so from `at`
pub record Dims (s : List ℕ) (base n : ℕ) (dims : List ℕ) (at : ℕ) (g : Reading) : Type 0 where
  pub few : n ≤ 4
  pub long : length dims ≡ 4
  pub rest : drop n dims ≡ replicate (4 - n) 0
  pub positive : each_positive (take n dims) ≡ true
  pub onward : (ltb 0 n && newline_at s at) ≡ false
  pub goes : columns_reading s at (array_rest base (take n dims)) ≡ g

module _ (s : List ℕ) (base n : ℕ) (dims : List ℕ) (at : ℕ) (g : Reading) (inv : Dims s base n dims at g) where
  so_far : length (take n dims) ≡ n
  so_far = length-take-le n dims (omega (arith, inv.few, inv.long))

  next_turn : on_found (column_at number s at) (λ d e. columns_reading s e (array_rest base (take n dims ++ (d ∷ [])))) faulty ≡ g
  next_turn = sym (another s at base (take n dims) (rw so_far inv.onward)) ∙ inv.goes

  longer : (d : ℕ) (ns : List ℕ) → length ((take n dims ++ (d ∷ [])) ++ ns) ≡ n + 1 + length ns
  longer d ns = simp (length-append, so_far)

  pub dims_over : 4 ≤ n → faulty ≡ g
  unfolding on_found
  dims_over h = go (column_at number s at) ∙ next_turn where
    go : (f : std.Option (Field ℕ)) → faulty ≡ on_found f (λ d e. columns_reading s e (array_rest base (take n dims ++ (d ∷ [])))) faulty
    go None = refl
    go (Some f) =
        sym (refused s f.end base (take n dims ++ (f.value ∷ [])) (λ ns. too_many base ((take n dims ++ (f.value ∷ [])) ++ ns) (omega (arith, longer f.value ns))))

  pub dims_fault : None ≡ column_at number s at → faulty ≡ g
  dims_fault h = on_missing _ _ _ _ h refl ∙ next_turn

  module _ (f : Field ℕ) (is : Some f ≡ column_at number s at) where
    turn : columns_reading s f.end (array_rest base (take n dims ++ (f.value ∷ []))) ≡ g
    turn = on_found_lem _ _ _ _ f is refl ∙ next_turn

    pub dims_zero : f.value ≡ 0 → faulty ≡ g
    dims_zero z = sym (refused s f.end base (take n dims ++ (f.value ∷ [])) (λ ns. rw z (with_zero base (take n dims) ns))) ∙ turn

    module _ (l : n < 4) (p : (f.value ≡ 0) → ⊥) where
      taken : take (n + 1) (set dims n f.value) ≡ take n dims ++ (f.value ∷ [])
      taken = rw (add-one n) (take-suc-set dims n f.value (omega (arith, inv.long)))

      left : drop (n + 1) (set dims n f.value) ≡ replicate (4 - (n + 1)) 0
      left =
          let k : 4 - n ≡ suc (4 - (n + 1)) = omega arith in
          let c : drop n dims ≡ get_or dims n 0 ∷ drop (n + 1) dims = rw (add-one n) (drop-cons dims n 0 (omega (arith, inv.long))) in
          let r : drop n dims ≡ replicate (suc (4 - (n + 1))) 0 = inv.rest ∙ ap (λ (m : ℕ). replicate m 0) k in
          drop-set-lt (n + 1) dims n f.value (omega arith) ∙ cc

      all_positive : each_positive (take n dims ++ (f.value ∷ [])) ≡ true
      all_positive = positive_more (take n dims) f.value inv.positive (omega arith)

      all_taken : up_to_zero (set dims n f.value) ≡ take n dims ++ (f.value ∷ [])
      all_taken =
          ap up_to_zero (sym (take-append-drop (n + 1) (set dims n f.value)))
          ∙ ap up_to_zero (ap₂ (λ (a b : List ℕ). a ++ b) taken left)
          ∙ up_to_zero_lem (take n dims ++ (f.value ∷ [])) (4 - (n + 1)) all_positive

      pub dims_last : (m : ℕ) → Some m ≡ next_at s f.end → reads (array_line base (up_to_zero (set dims n f.value))) m ≡ g
      dims_last m b =
          let q = next_at_lem s f.end m b in
          let c : length (take n dims ++ (f.value ∷ [])) ≡ n + 1 = length-append (take n dims) (f.value ∷ []) ∙ ap (λ (k : ℕ). k + 1) so_far in
          let r : readable (array_line base (take n dims ++ (f.value ∷ []))) ≡ true = good base (take n dims ++ (f.value ∷ [])) (omega arith) (omega arith) all_positive in
          rw (all_taken, q.1) (sym (ended s f.end base (take n dims ++ (f.value ∷ [])) q.0 r) ∙ turn)

      pub dims_more : None ≡ next_at s f.end → Dims s base (n + 1) (set dims n f.value) f.end g
      dims_more b = record {
        few = omega arith;
        long = length-set dims n f.value ∙ inv.long;
        rest = left;
        positive = ap each_positive taken ∙ all_positive;
        onward = simp (lt-ltb 0 (n + 1) (omega arith), no_next s f.end b);
        goes = ap (λ (l : List ℕ). columns_reading s f.end (array_rest base l)) taken ∙ turn;
      }

-- ---- the first turn, and the end

pub dims_start : (s : List ℕ) (q : ℕ) (f : Field ℕ) → Some f ≡ column_at number s q → Dims s f.value 0 (0 ∷ 0 ∷ 0 ∷ 0 ∷ []) f.end (columns_reading s q array_line_of)
unfolding array_line_of array_rest
dims_start s q f is = record {
  few = omega arith;
  long = refl;
  rest = refl;
  positive = refl;
  onward = refl;
  goes = column_is s q number (λ base fs. numbers fs >>= λ ds. some (array_line base ds)) _ (on_found_lem _ _ _ _ f is refl);
}

pub array_fault : (s : List ℕ) (q : ℕ) → None ≡ column_at number s q → faulty ≡ columns_reading s q array_line_of
unfolding array_line_of
array_fault s q is = column_is s q number (λ base fs. numbers fs >>= λ ds. some (array_line base ds)) _ (on_missing _ _ _ _ is refl)

pub array_reads : (s : List ℕ) (x : Reading) (base n : ℕ) (dims : List ℕ)
    → reads (array_line base (up_to_zero dims)) n ≡ x → Reads s (Some (record { line = Array base n; dims = dims })) x
array_reads s x base n dims h = record { tells = h; within = refl }

pub ruleset array_laws = (rules, dims_start, dims_over, dims_fault, dims_zero, dims_last, dims_more, array_fault, array_reads, reads_none)
