-- How the match of a destination leaf follows from the words of two types, level by level. Assumes nothing.
use mathlib.Core.Path.{◌≡◌, refl, sym, ap, ◌∙◌}
use mathlib.Core.Bool.{Bool, true, false, not, cond, ◌&&◌}
use mathlib.Core.List.{List}
use Prim.Native.Nat.{ℕ, zero, suc, ◌+◌, ◌-◌, ◌*◌, ◌/◌, ◌%◌, ◌≤◌, ◌<◌}
use native.Mathlib.Nat.{not-suc-le-zero, zero-add, add-zero, add_assoc, suc-mul, mul-le-mul_right, le_of_lt, le_trans, div-lt_iff_lt-mul, div-add-mod', mul-add-div_right, mul-add-mod_self_right, div-eq_of_lt, mod-eq_of_lt, mod-lt, div-le_self}
use native.Mathlib.Omega.{arith}
use lib.Dec.{eqb, ltb}
use mir.Syntax.{w64}
use mir.Val.{Fits}
use borrow.Author.Rules.{rules}
use borrow.Author.Tests.{ne_eqb, lt-ltb}
use Rattle.layout.proofs.Edits.{fails, holds}
use Rattle.datatype.specs.Datatype.{Leaf, Datatype, Members, size, elements, same}
use Rattle.datatype.specs.Datatype.Datatype.{leaf, compound, array}
use Rattle.datatype.specs.Paths.{Lookup, on_found, is_compound, is_array_like}
use Rattle.datatype.specs.Matches.{Match, further, match_leaf, match_at, match_in}
use Rattle.datatype.specs.Matches.Match.{unmatched, matched}
use Rattle.datatype.specs.WellFormed.{WellFormed}
use Rattle.datatype.proofs.Tests.{within→, same→eq}
use Rattle.datatype.proofs.Matches.{size_some, size_most, in_range, match_formed}
use Rattle.std.specs.Prelude.{Option, Some, None}
use Rattle.table.specs.Table.{size_word, base_word, first_word, rows_word, offset_word, member_type_word, name_at, members_at, dimensions_at, node, decode, type_at}
use Rattle.table.specs.Words.{Reads}
use Rattle.table.specs.Rows.{row_named, member_found}
use Rattle.table.proofs.Lookups.{member_named_lem}
use Rattle.namesakes.specs.Named.{NamedIn}
use Rattle.namesakes.proofs.Named.{the_row}
use Rattle.paths.specs.declared.Walk.{Walk}
use Rattle.paths.specs.declared.Walk.TheVariants.{On, Same, Off}
use Rattle.paths.specs.declared.Pair.TheVariants.{Matched, Unmatched}
use Rattle.paths.specs.Leaf.{leaf_of_type, MatchFound}
use Rattle.paths.specs.Steps.{Sized, Whole, kind_at, covers, row_over, OverIn, row_end, GapEnd, members_of_type, Reaches, match_after, Led, Leads, match_named, LeadsIn}
use Rattle.paths.proofs.Shapes.{leaf_kind, leaf_kind_lem, tree_kind, tree_kind_lem, compound_node, array_node, leaf_node, decode_step, size_decode, whole, type_low, formed_compound, formed_array, element_some}
use Rattle.paths.proofs.Rows.{cond_push, product_fits, over_gap, over_formed, over_same, the_row_over, named_formed}

-- ---- from a destination's row into a source compound

module _ (ws ts : List ℕ) (s : ℕ) (wd td : List ℕ) (j b : ℕ) (kind : kind_at ws s ≡ 3) (here : covers wd j b ≡ true) {r : Option ℕ}
    (hr : NamedIn ws ts (name_at wd td j) (first_word ws s) (rows_word ws s) r) where
  abbrev in_found : (ℕ → Datatype) → ℕ → Lookup → Match
  in_found D c = on_found (λ o T. further o (match_at T (D (member_type_word wd j)) (c - offset_word wd j))) unmatched

  row_is : (S : ℕ → Datatype) → Whole S ws ts s → r ≡ row_named ws ts (name_at wd td j) (first_word ws s) (rows_word ws s)
  row_is S whole =
      the_row ws ts (first_word ws s) (name_at wd td j) S (size_word ws s) (rows_word ws s) (formed_compound S ws ts s whole kind).1 hr

  named_is : (S D : ℕ → Datatype) (c : ℕ) {v : Option ℕ} → Whole S ws ts s → r ≡ v
      → match_named D (members_of_type S ws ts s) wd td j c ≡ in_found D c (member_found S ws v)
  named_is S D c whole e =
      ap (in_found D c) (member_named_lem ws ts (name_at wd td j) (first_word ws s) S (rows_word ws s) ∙ ap (member_found S ws) (sym (row_is S whole) ∙ e))

  in_row : (offset_word wd j ≤ b) × (b < row_end wd j)
  in_row = within→ (offset_word wd j) (size_word wd (member_type_word wd j)) b here

  pub named_off : {e : ℕ} → r ≡ None → e ≡ row_end wd j → LeadsIn ws ts s wd td j b (Off e)
  named_off none he S D x y whole formed =
      record { is = λ i l. (omega arith, named_is S D (b + i) whole none); onward = omega (arith, in_row) }

  pub named_on : {m from k l o a : ℕ} → r ≡ Some m → Reads (offset_word ws m) from → Reads (member_type_word ws m) k → Reads (member_type_word wd j) l
      → Reads (offset_word wd j) o → a ≡ b - o → LeadsIn ws ts s wd td j b (On from k l a)
  named_on {m} {l = l} {o = o} {a = a} e hf hk hl ho ha S D x y whole formed =
      let in-compound = formed_compound S ws ts s whole kind in
      let found = named_formed S ws ts (size_word ws s) (first_word ws s) (name_at wd td j) (rows_word ws s) in-compound.1 (sym (row_is S whole) ∙ e) in
      let same : size_word wd l ≡ size_word wd (member_type_word wd j) = ap (size_word wd) hl.is in
      record {
        is = λ i h.
            let at : b + i - offset_word wd j ≡ a + i = omega (arith, in_row, ho.is) in
            (omega (arith, in_row, ho.is), named_is S D (b + i) whole e ∙ rw (at, hf.is, hk.is, hl.is) refl);
        onward = (omega (arith, found.0, in-compound.0.most, hf.is), omega (arith, in_row, ho.is), rw hk.is found.1, rw hl.is formed);
      }

pub ruleset named_laws = (rules, named_off, named_on)

-- ---- compounds

module _ (D : ℕ → Datatype) (wd td : List ℕ) (sized : Sized D wd) (ss : Members) (first b : ℕ) where
  abbrev match_over : Option ℕ → Match
  match_over (Some j) = match_named D ss wd td j b
  match_over None = unmatched

  members_match : (n : ℕ) → match_in ss (members_at D wd td first n) b ≡ match_over (row_over wd first n b)
  unfolding members_at row_over match_at
  members_match zero = refl
  members_match (suc n) =
      rw (sized (member_type_word wd (first + n)))
      (ap (cond (covers wd (first + n) b) (match_over (Some (first + n)))) (members_match n)
      ∙ cond_push match_over (Some (first + n)) (row_over wd first n b) (covers wd (first + n) b))

module _ (ws ts : List ℕ) (s : ℕ) (wd td : List ℕ) (d b : ℕ) (ks : kind_at ws s ≡ 3) (kd : kind_at wd d ≡ 3) {r : Option ℕ} (hr : OverIn wd (first_word wd d) (rows_word wd d) b r) where
  compound_is : (S D : ℕ → Datatype) (sized : Sized D wd) (c : ℕ) {v : Option ℕ} → row_over wd (first_word wd d) (rows_word wd d) c ≡ v
      → match_at (node S ws ts s) (node D wd td d) c ≡ match_over D wd td sized (members_of_type S ws ts s) (first_word wd d) c v
  unfolding match_at
  compound_is S D sized c e =
      rw (compound_node S ws ts s ks, compound_node D wd td d kd)
      (members_match D wd td sized (members_of_type S ws ts s) (first_word wd d) c (rows_word wd d)
      ∙ ap (match_over D wd td sized (members_of_type S ws ts s) (first_word wd d) c) e)

  pub compound_off : {first n z e : ℕ} → r ≡ None → Reads (first_word wd d) first → Reads (rows_word wd d) n → Reads (size_word wd d) z → GapEnd wd first 0 n b z e
      → Leads ws ts s wd td d b (Off e)
  compound_off {e = e} none hf hn hz gap S D fs fd =
      let clear = rw (hf.is, hn.is) at gap.clear in
      record {
        is = λ i l. (
          omega (arith, gap.inside, hz.is),
          compound_is S D fd.sized (b + i)
              (over_gap wd (first_word wd d) (rows_word wd d) b (b + i) e (λ q h. clear q (omega arith) h) (hr.none none) (omega arith) l),
        );
        onward = gap.behind;
      }

  -- the row that is found has the byte
  pub compound_covers : {j : ℕ} → r ≡ Some j → covers wd j b ≡ true
  compound_covers {j} e = (hr.has j e).2

  pub compound_on : {j : ℕ} {v : Walk} → r ≡ Some j → LeadsIn ws ts s wd td j b v → Leads ws ts s wd td d b v
  compound_on {j} {v} e leads S D fs fd =
      let formed = (formed_compound D wd td d fd kd).1 in
      let row = sym (the_row_over D wd td (size_word wd d) (first_word wd d) fd.sized (rows_word wd d) b formed hr) ∙ e in
      let inner = over_formed D wd td (size_word wd d) (first_word wd d) (rows_word wd d) b formed row in
      let led = leads S D (leaf_of_type ws ts s) (leaf_of_type wd td d) fs inner.1 in
      let from = within→ (offset_word wd j) (size_word wd (member_type_word wd j)) b (compound_covers e) in
      record {
        is = λ i l. (
          omega (arith, (led.is i l).0, inner.0, fd.sized (member_type_word wd j)),
          compound_is S D fd.sized (b + i)
              (over_same D wd td (size_word wd d) (first_word wd d) fd.sized (rows_word wd d) b (b + i) formed row (omega (arith, from.0)) (led.is i l).0)
              ∙ (led.is i l).1,
        );
        onward = led.onward;
      }

pub ruleset compound_laws = (rules, compound_off, compound_on, compound_covers)

-- ---- arrays

module _ (b y j : ℕ) (l : b % y + j < y) where
  further_on : b / y * y + (b % y + j) ≡ b + j
  further_on = omega (arith, div-add-mod' b y)

  -- the rest of an element lies in the same one
  same_element : (b + j) / y ≡ b / y
  same_element =
      rw (← further_on, mul-add-div_right {m = y} (omega arith) (b / y) (b % y + j), div-eq_of_lt l, add-zero) refl

  in_element : (b + j) % y ≡ b % y + j
  in_element = rw (← further_on, mul-add-mod_self_right (b / y) y (b % y + j)) (mod-eq_of_lt l)

  -- and so in the array
  in_array : (n z : ℕ) → z ≡ n * y → b < z → b + j < z
  in_array n z e h =
      let q : b / y < n = (div-lt_iff_lt-mul {k = y} {x = b} {y = n} (omega arith)).1 (rw e at h) in
      omega (arith, e, further_on, suc-mul (b / y) y, mul-le-mul_right y q)

-- the element's place in the source array
element_short : (b n z y w x : ℕ) → 1 ≤ y → z ≡ n * y → b < z → w ≡ n * x → w ≤ 4096 → b / y * x ≤ 4096
element_short b n z y w x p e l q h =
    le_trans (mul-le-mul_right x (le_of_lt ((div-lt_iff_lt-mul {k = y} {x = b} {y = n} p).1 (rw e at l)))) (rw q at h)

module _ (ws : List ℕ) (s : ℕ) (wd : List ℕ) (d b : ℕ) (ks : kind_at ws s ≡ 4) (kd : kind_at wd d ≡ 4) (here : b < size_word wd d)
    {t : Bool} (alike : t ≡ same (dimensions_at ws s) (dimensions_at wd d)) where
  module _ (ts td : List ℕ) (S D : ℕ → Datatype) (fs : Whole S ws ts s) (fd : Whole D wd td d) where
    array_is : (c : ℕ) → match_at (node S ws ts s) (node D wd td d) c
        ≡ cond (t && ltb c (size_word wd d))
        (further (c / size_word wd (base_word wd d) * size_word ws (base_word ws s)) (match_at (S (base_word ws s)) (D (base_word wd d)) (c % size_word wd (base_word wd d))))
        unmatched
    unfolding match_at
    array_is c =
        rw (array_node S ws ts s ks, array_node D wd td d kd, fs.sized (base_word ws s), fd.sized (base_word wd d), alike) refl

  pub array_others : {z : ℕ} → not t ≡ true → Reads (size_word wd d) z → (ts td : List ℕ) → Leads ws ts s wd td d b (Off z)
  array_others e hz ts td S D fs fd =
      record { is = λ j l. (omega (arith, hz.is), array_is ts td S D fs fd (b + j) ∙ rw (fails {t = t} refl e) refl); onward = omega (arith, hz.is) }

  module _ (e : not t ≡ false) {l y k x : ℕ} (hl : Reads (base_word wd d) l) (hy : Reads (size_word wd l) y) (hk : Reads (base_word ws s) k) (hx : Reads (size_word ws k) x) where
    pub array_on : {q a : ℕ} → q ≡ b / y → a ≡ b % y → (ts td : List ℕ) → Leads ws ts s wd td d b (On (q * x) k l a)
    array_on {q} {a} hq ha ts td S D fs fd =
        let gs = formed_array S ws ts s fs ks in
        let gd = formed_array D wd td d fd kd in
        let some : 1 ≤ y = rw (hy.is, hl.is) (element_some D wd td d fd kd) in
        let product : size_word wd d ≡ elements (dimensions_at wd d) * y = rw (hy.is, hl.is) gd.0.product in
        record {
          is = λ j h.
              let r : b % y + j < y = omega (arith, ha, hy.is) in
              let inside : b + j < size_word wd d = in_array b y j r (elements (dimensions_at wd d)) (size_word wd d) product here in (
                inside,
                array_is ts td S D fs fd (b + j)
                    ∙ rw (holds {t = t} refl e, lt-ltb (b + j) (size_word wd d) inside, ← hl.is, ← hy.is, same_element b y j r, in_element b y j r, hq, ha, ← hk.is, ← hx.is) refl,
              );
          onward = (
            rw (hq, hx.is, hk.is)
                (element_short b (elements (dimensions_at wd d)) (size_word wd d) y (size_word ws s) (size_word ws (base_word ws s)) some product here
                (gs.0.product ∙ ap (λ (c : ℕ). c * size_word ws (base_word ws s)) (ap elements (same→eq (dimensions_at ws s) (dimensions_at wd d) (holds alike e)))) gs.0.most),
            rw (ha, ← hy.is) (mod-lt b some),
            rw hk.is gs.1,
            rw hl.is gd.1,
          );
        }

-- the code's product fits, whatever the table says
pub place_fits : (b y : ℕ) {z q x u v : ℕ} → b < u → Reads u z → Reads v x → q ≡ b / y → Fits w64 (q * x)
place_fits b y {z} {q} {x} h hz hx e =
    product_fits q x (omega (arith, div-le_self b y, hz.small, hz.is)) hx.small

pub ruleset array_laws = (rules, place_fits, array_others, array_on)

-- ---- by kinds

not_compound : (T : Datatype) → (tree_kind T ≡ 3 → ⊥) → is_compound T ≡ false
not_compound (leaf x) h = refl
not_compound (compound z ms) h = absurd (h refl)
not_compound (array z ds T) h = refl

not_array : (T : Datatype) (ds : List ℕ) → (tree_kind T ≡ 4 → ⊥) → is_array_like T ds ≡ false
not_array (leaf x) ds h = refl
not_array (compound z ms) ds h = refl
not_array (array z es T) ds h = absurd (h refl)

not_leaf : (T : Datatype) (y : Leaf) → ((x : Leaf) → tree_kind T ≡ leaf_kind x → ⊥) → match_leaf T y ≡ unmatched
not_leaf (leaf x) y h = absurd (h x refl)
not_leaf (compound z ms) y h = refl
not_leaf (array z ds T) y h = refl

pub kind_known : (w : List ℕ) (i : ℕ) {kind k : ℕ} → kind ≡ kind_at w i → kind ≡ k → kind_at w i ≡ k
kind_known w i hk e = sym hk ∙ e

module _ (ws ts : List ℕ) (s : ℕ) (wd td : List ℕ) (d b : ℕ) (here : b < size_word wd d) {from to z : ℕ} (hs : from ≡ kind_at ws s) (hd : to ≡ kind_at wd d)
    (hz : Reads (size_word wd d) z) where
  -- no byte of the destination type has a match
  off : ((S D : ℕ → Datatype) (c : ℕ) → b ≤ c → match_at (node S ws ts s) (node D wd td d) c ≡ unmatched) → Leads ws ts s wd td d b (Off z)
  off all S D fs fd = record { is = λ j l. (omega (arith, hz.is), all S D (b + j) (omega arith)); onward = omega (arith, hz.is) }

  pub off_compound : to ≡ 3 → (from ≡ 3 → ⊥) → Leads ws ts s wd td d b (Off z)
  unfolding match_at
  off_compound h k = off (λ S D c l.
      rw (compound_node D wd td d (sym hd ∙ h), not_compound (node S ws ts s) (λ e. k (hs ∙ sym (tree_kind_lem S ws ts s) ∙ e))) refl)

  pub off_array : to ≡ 4 → (from ≡ 4 → ⊥) → Leads ws ts s wd td d b (Off z)
  unfolding match_at
  off_array h k = off (λ S D c l.
      rw (array_node D wd td d (sym hd ∙ h), not_array (node S ws ts s) (dimensions_at wd d) (λ e. k (hs ∙ sym (tree_kind_lem S ws ts s) ∙ e))) refl)

  module _ (h : to ≡ 3 → ⊥) (k : to ≡ 4 → ⊥) where
    to_leaf : (S D : ℕ → Datatype) (c : ℕ) → match_at (node S ws ts s) (node D wd td d) c ≡ cond (eqb c 0) (match_leaf (node S ws ts s) (leaf_of_type wd td d)) unmatched
    unfolding match_at
    to_leaf S D c = rw (leaf_node D wd td d (λ e. h (hd ∙ e)) (λ e. k (hd ∙ e))) refl

    pub off_late : (b ≡ 0 → ⊥) → Leads ws ts s wd td d b (Off z)
    off_late l = off (λ S D c m. to_leaf S D c ∙ rw (ne_eqb c 0 (λ e. l (omega arith))) refl)

    off_inner : ((x : Leaf) → leaf_kind x ≡ from → ⊥) → Leads ws ts s wd td d b (Off z)
    off_inner l = off (λ S D c m.
        to_leaf S D c ∙ none (not_leaf (node S ws ts s) (leaf_of_type wd td d) (λ x e. l x (sym e ∙ tree_kind_lem S ws ts s ∙ sym hs))) (eqb c 0))
      where
        none : {m : Match} → m ≡ unmatched → (t : Bool) → cond t m unmatched ≡ unmatched
        none e true = e
        none e false = refl

    pub off_in_compound : from ≡ 3 → Leads ws ts s wd td d b (Off z)
    off_in_compound e = off_inner (λ x q. (leaf_kind_lem x).0 (q ∙ e))

    pub off_in_array : from ≡ 4 → Leads ws ts s wd td d b (Off z)
    off_in_array e = off_inner (λ x q. (leaf_kind_lem x).1 (q ∙ e))

    pub on_leaves : b ≡ 0 → (from ≡ 3 → ⊥) → (from ≡ 4 → ⊥) → Leads ws ts s wd td d b Same
    on_leaves start no-compound no-array S D fs fd =
        record {
          is = λ j e. (
            omega arith,
            rw (start, e) (to_leaf S D 0 ∙ rw (leaf_node S ws ts s (λ e. no-compound (hs ∙ e)) (λ e. no-array (hs ∙ e))) refl),
          );
          onward = tt;
        }

pub ruleset walk_laws = (rules, kind_known, off_compound, off_array, off_late, off_in_compound, off_in_array, on_leaves)

-- ---- one level after the other

pub further_zero : (m : Match) → further 0 m ≡ m
further_zero unmatched = refl
further_zero (matched a x y) = rw zero-add

further_further : (p q : ℕ) (m : Match) → further p (further q m) ≡ further (p + q) m
further_further p q unmatched = refl
further_further p q (matched a x y) = rw add_assoc

too_deep : (f : ℕ) (ws ts : List ℕ) (s : ℕ) (wd td : List ℕ) (d c : ℕ) → f ≤ 0 → match_at (decode f ws ts s) (decode f wd td d) c ≡ unmatched
unfolding decode match_at
too_deep zero ws ts s wd td d c h = refl
too_deep (suc f) ws ts s wd td d c h = absurd (not-suc-le-zero h)

-- the matches at byte b of the types i and k and behind it are those at byte `at` of the types s and d, `from` bytes further in the source
pub record Reached (ws ts : List ℕ) (i : ℕ) (wd td : List ℕ) (k b s d at from f : ℕ) : Type 0 where
  pub is : (j : ℕ) → at + j < size_word wd d
      → (b + j < size (type_at wd td k)) × (match_at (type_at ws ts i) (type_at wd td k) (b + j) ≡ further from (match_at (decode f ws ts s) (decode f wd td d) (at + j)))
  pub inside : at < size_word wd d
  pub source : WellFormed (decode f ws ts s)
  pub destination : WellFormed (decode f wd td d)

module _ (ws ts : List ℕ) (i : ℕ) (wd td : List ℕ) (k b : ℕ) where
  pub reached_start : WellFormed (type_at ws ts i) → WellFormed (type_at wd td k) → b < size (type_at wd td k) → Reached ws ts i wd td k b i k b 0 64
  reached_start fs fd h =
      record {
        is = λ j l. (omega (arith, size_decode 64 wd td k), sym (further_zero (match_at (type_at ws ts i) (type_at wd td k) (b + j))));
        inside = omega (arith, size_decode 64 wd td k);
        source = fs;
        destination = fd;
      }

  module _ {s d at from f : ℕ} {r : Walk} (reached : Reached ws ts i wd td k b s d at from f) (h : 0 < f) (step : Leads ws ts s wd td d at r) where
    led : Led (decode (f - 1) ws ts) (decode (f - 1) wd td) (leaf_of_type ws ts s) (leaf_of_type wd td d) (match_at (decode f ws ts s) (decode f wd td d)) wd (size_word wd d) at r
    led =
        rw (decode_step f ws ts s h, decode_step f wd td d h)
        (step (decode (f - 1) ws ts) (decode (f - 1) wd td) (whole f ws ts s h reached.source) (whole f wd td d h reached.destination))

    turned : (j : ℕ) → Reaches wd at r j
        → (b + j < size (type_at wd td k))
        × (match_at (type_at ws ts i) (type_at wd td k) (b + j)
        ≡ further from (match_after (decode (f - 1) ws ts) (decode (f - 1) wd td) (leaf_of_type ws ts s) (leaf_of_type wd td d) r j))
    turned j l =
        let here = led.is j l in
        let above = reached.is j here.0 in
        (above.0, above.1 ∙ ap (further from) here.1)

    pub turn_few : {q m n a : ℕ} → r ≡ On q m n a → q ≤ 4096
    turn_few e = (rw e at led.onward).0

    pub turn_on : {q m n a : ℕ} → r ≡ On q m n a → Reached ws ts i wd td k b m n a (from + q) (f - 1)
    turn_on {q} {m} {n} {a} e =
        let on = rw e at led.onward in
        record {
          is = λ j l.
              let here = (rw e at turned) j l in
              (here.0, here.1 ∙ further_further from q (match_at (decode (f - 1) ws ts m) (decode (f - 1) wd td n) (a + j)));
          inside = on.1;
          source = on.2;
          destination = on.3;
        }

    pub turn_same : WellFormed (type_at ws ts i) → WellFormed (type_at wd td k) → r ≡ Same → MatchFound ws ts i wd td k b (Matched from s d)
    turn_same fs fd e =
        let is : match_at (type_at ws ts i) (type_at wd td k) b ≡ matched from (leaf_of_type ws ts s) (leaf_of_type wd td d) =
        rw (add-zero b, add-zero from) at ((rw e at turned) 0 refl).1 in
        record {
          is = sym is;
          small = (
            omega (
              arith,
              (in_range (type_at ws ts i) (type_at wd td k) fs fd b from (leaf_of_type ws ts s) (leaf_of_type wd td d) is).1,
              size_some (leaf (leaf_of_type ws ts s))
                  (match_formed (type_at ws ts i) (type_at wd td k) fs fd b from (leaf_of_type ws ts s) (leaf_of_type wd td d) is).0,
              size_most (type_at ws ts i) fs,
            ),
            type_low f ws ts s reached.source,
            type_low f wd td d reached.destination,
          );
          behind = tt;
        }

    pub turn_past : {e : ℕ} → r ≡ Off e → at < e
    turn_past e = rw e at led.onward

    pub turn_off : {e : ℕ} → r ≡ Off e → MatchFound ws ts i wd td k b (Unmatched (e - at))
    turn_off {e} q =
        let past : at < e = turn_past q in
        let none : (j : ℕ) → j < e - at → (b + j < size (type_at wd td k)) × (match_at (type_at ws ts i) (type_at wd td k) (b + j) ≡ unmatched) =
        λ j l. (rw q at turned) j (omega arith) in
        record { is = sym (rw add-zero at (none 0 (omega arith)).1); small = tt; behind = record { some = omega arith; each = none } }

  pub turn_out : {s d at from f : ℕ} → Reached ws ts i wd td k b s d at from f → f ≤ 0 → MatchFound ws ts i wd td k b (Unmatched 1)
  turn_out {s} {d} {at} {from} {f} reached h =
      record { is = sym (rw add-zero at (none 0 (omega arith)).1); small = tt; behind = record { some = omega arith; each = none } }
    where
      none : (j : ℕ) → j < 1 → (b + j < size (type_at wd td k)) × (match_at (type_at ws ts i) (type_at wd td k) (b + j) ≡ unmatched)
      none j l =
          let above = reached.is j (omega (arith, reached.inside)) in
          (above.0, above.1 ∙ ap (further from) (too_deep f ws ts s wd td d (at + j) h))
