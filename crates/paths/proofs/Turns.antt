-- How a question of two types, as the one for a path, follows from their words, level by level. Assumes nothing.
use mathlib.Core.Path.{◌≡◌, refl, sym, ap, ap₂, ◌∙◌}
use mathlib.Core.Bool.{Bool, true, false, not, ◌&&◌}
use mathlib.Core.List.{List}
use Prim.Native.Nat.{ℕ, zero, suc, ◌+◌, ◌-◌, ◌≤◌, ◌<◌}
use native.Mathlib.Nat.{not-suc-le-zero, pos_of_ne-zero}
use native.Mathlib.Numerals.{sub-one}
use native.Mathlib.Omega.{arith}
use borrow.Author.Rules.{rules}
use Rattle.layout.specs.declared.Class.{Class}
use Rattle.layout.specs.declared.Class.TheVariants.{Int, Bits}
use Rattle.layout.proofs.Edits.{fails, holds}
use Rattle.datatype.specs.Datatype.{Leaf, Datatype, Members, same as same_dimensions}
use Rattle.datatype.specs.Datatype.Leaf.{atomic, enumeration, real}
use Rattle.datatype.specs.Datatype.Datatype.{leaf, compound, array}
use Rattle.datatype.specs.declared.Word.{Word}
use Rattle.datatype.specs.Datatype.Members.{empty, member}
use Rattle.datatype.specs.Paths.{is_same_class, leaf_path, Lookup, on_found, member_named, has_path, paths_to}
use Rattle.datatype.specs.WellFormed.{WellFormed, WellFormedIn}
use Rattle.std.specs.Prelude.{Option, Some, None}
use Rattle.table.specs.Table.{size_word, base_word, first_word, rows_word, member_type_word, name_at, members_at, dimensions_at, node, decode}
use Rattle.table.specs.Records.{class_code}
use Rattle.table.specs.Words.{Reads}
use Rattle.table.specs.Rows.{row_named, member_found}
use Rattle.table.proofs.Lookups.{member_named_lem}
use Rattle.namesakes.specs.Named.{NamedIn}
use Rattle.namesakes.proofs.Named.{the_row}
use Rattle.paths.specs.declared.Turn.{Turn}
use Rattle.paths.specs.declared.Turn.TheVariants.{Answer, Bases, Lists}
use Rattle.paths.specs.declared.Inner.{Inner}
use Rattle.paths.specs.Steps.{Whole, kind_at, members_of_type, int_and_real, Turned, Turns, ask_named, inner_after, Entered, Inside}
use Rattle.paths.proofs.Shapes.{leaf_kind, tree_kind, tree_kind_lem, compound_node, array_node, decode_step, whole, formed_compound, formed_array}
use Rattle.paths.proofs.Rows.{named_formed, row_formed}

-- ---- by kinds

class_differ : (c d : Class) → (class_code d ≡ class_code c → ⊥) → is_same_class c d ≡ int_and_real (class_code c) (class_code d)
unfolding int_and_real
class_differ Int Int h = absurd (h refl)
class_differ Int Bits h = refl
class_differ Bits Int h = refl
class_differ Bits Bits h = absurd (h refl)

class_same : (c d : Class) → class_code d ≡ class_code c → is_same_class c d ≡ true
class_same Int Int e = refl
class_same Int Bits e = absurd (omega arith)
class_same Bits Int e = absurd (omega arith)
class_same Bits Bits e = refl

class_atomic : (c : Class) → class_code c ≡ 2 → ⊥
class_atomic Int e = omega arith
class_atomic Bits e = omega arith

class_real : (c : Class) → class_code c ≡ 5 → ⊥
class_real Int e = omega arith
class_real Bits e = omega arith

-- nothing but an int and a real goes beside another kind
class_enum : (c : Class) → false ≡ int_and_real (class_code c) 2
unfolding int_and_real
class_enum Int = refl
class_enum Bits = refl

to_real_lem : (c : Class) → is_same_class c Int ≡ int_and_real (class_code c) 5
unfolding int_and_real
to_real_lem Int = refl
to_real_lem Bits = refl

from_real : (c : Class) → is_same_class Int c ≡ int_and_real 5 (class_code c)
unfolding int_and_real
from_real Int = refl
from_real Bits = refl

leaf_differ : (x y : Leaf) → (leaf_kind y ≡ leaf_kind x → ⊥) → leaf_path x y ≡ int_and_real (leaf_kind x) (leaf_kind y)
unfolding int_and_real
leaf_differ (atomic l) (atomic k) h = class_differ l.class k.class h
leaf_differ (atomic l) (enumeration k ts) h = class_enum l.class
leaf_differ (atomic l) (real k) h = to_real_lem l.class
leaf_differ (enumeration l ss) (atomic k) h = refl
leaf_differ (enumeration l ss) (enumeration k ts) h = absurd (h refl)
leaf_differ (enumeration l ss) (real k) h = refl
leaf_differ (real l) (atomic k) h = from_real k.class
leaf_differ (real l) (enumeration k ts) h = refl
leaf_differ (real l) (real k) h = absurd (h refl)

leaf_same : (x y : Leaf) → leaf_kind y ≡ leaf_kind x → leaf_path x y ≡ true
leaf_same (atomic l) (atomic k) e = class_same l.class k.class e
leaf_same (atomic l) (enumeration k ts) e = absurd (class_atomic l.class (sym e))
leaf_same (enumeration l ss) (atomic k) e = absurd (class_atomic k.class e)
leaf_same (enumeration l ss) (enumeration k ts) e = refl
leaf_same (atomic l) (real k) e = absurd (class_real l.class (sym e))
leaf_same (enumeration l ss) (real k) e = absurd (omega arith)
leaf_same (real l) (atomic k) e = absurd (class_real k.class e)
leaf_same (real l) (enumeration k ts) e = absurd (omega arith)
leaf_same (real l) (real k) e = refl

class_outer : (c : Class) → (false ≡ int_and_real (class_code c) 3) × (false ≡ int_and_real (class_code c) 4)
unfolding int_and_real
class_outer Int = (refl, refl)
class_outer Bits = (refl, refl)

leaf_outer : (x : Leaf) → (false ≡ int_and_real (leaf_kind x) 3) × (false ≡ int_and_real (leaf_kind x) 4)
unfolding int_and_real
leaf_outer (atomic l) = class_outer l.class
leaf_outer (enumeration l ss) = (refl, refl)
leaf_outer (real l) = (refl, refl)

path_differ : (S T : Datatype) → (tree_kind T ≡ tree_kind S → ⊥) → has_path S T ≡ int_and_real (tree_kind S) (tree_kind T)
unfolding has_path int_and_real
path_differ (leaf x) (leaf y) h = leaf_differ x y h
path_differ (leaf x) (compound z ms) h = (leaf_outer x).0
path_differ (leaf x) (array z ds T) h = (leaf_outer x).1
path_differ (compound y ss) (leaf x) h = refl
path_differ (compound y ss) (compound z ms) h = absurd (h refl)
path_differ (compound y ss) (array z ds T) h = refl
path_differ (array y es S) (leaf x) h = refl
path_differ (array y es S) (compound z ms) h = refl
path_differ (array y es S) (array z ds T) h = absurd (h refl)

path_leaves : (S T : Datatype) → tree_kind T ≡ tree_kind S → (tree_kind T ≡ 3 → ⊥) → (tree_kind T ≡ 4 → ⊥) → has_path S T ≡ true
unfolding has_path
path_leaves (leaf x) (leaf y) e h k = leaf_same x y e
path_leaves (compound y ss) (leaf x) e h k = absurd (h e)
path_leaves (array y es S) (leaf x) e h k = absurd (k e)
path_leaves S (compound z ms) e h k = absurd (h refl)
path_leaves S (array z ds T) e h k = absurd (k refl)

-- ---- questions that go by the parts of types

-- from compound to compound by the members of one name, from array to array of the same dimensions by the elements
pub record ByParts (ask : Datatype → Datatype → Bool) (asks : Members → Members → Bool) : Type 0 where
  pub none : (ss : Members) → asks ss empty ≡ true
  pub more : (ss : Members) (x : List ℕ) (offset : ℕ) (T : Datatype) (word : Word) (ms : Members)
      → asks ss (member x offset T word ms) ≡ on_found (λ o S. ask S T) true (member_named x ss) && asks ss ms
  pub compounds : (z y : ℕ) (ss ds : Members) → ask (compound z ss) (compound y ds) ≡ asks ss ds
  pub arrays : (z y : ℕ) (es ds : List ℕ) (S T : Datatype) → same_dimensions es ds ≡ true → ask (array z es S) (array y ds T) ≡ ask S T

pub path_parts : ByParts has_path paths_to
unfolding has_path
path_parts =
    record {
      none = λ ss. refl;
      more = λ ss x offset T word ms. refl;
      compounds = λ z y ss ds. refl;
      arrays = λ z y es ds S T e. rw e refl;
    }

-- ---- one turn

module _ {ask : Datatype → Datatype → Bool} {asks : Members → Members → Bool} (parts : ByParts ask asks) (ws : List ℕ) (s : ℕ) (wd : List ℕ) (d : ℕ) {from to : ℕ}
    (hs : from ≡ kind_at ws s) (hd : to ≡ kind_at wd d) (same : to ≡ from) where
  pub turn_lists : to ≡ 3 → (ts td : List ℕ) → Turns ask asks ws ts s wd td d Lists
  turn_lists h ts td S D fs fd =
      let ks : kind_at ws s ≡ 3 = sym hs ∙ sym same ∙ h in
      let kd : kind_at wd d ≡ 3 = sym hd ∙ h in
      record {
        is = rw (compound_node S ws ts s ks, compound_node D wd td d kd) (parts.compounds _ _ _ _);
        onward = ((formed_compound S ws ts s fs ks).1, (formed_compound D wd td d fd kd).1);
      }

  pub turn_bases : to ≡ 4 → {r : Bool} → r ≡ same_dimensions (dimensions_at ws s) (dimensions_at wd d) → {k l : ℕ} → not r ≡ false
      → Reads (base_word ws s) k → Reads (base_word wd d) l → (ts td : List ℕ) → Turns ask asks ws ts s wd td d (Bases k l)
  turn_bases h {r} alike e hk hl ts td S D fs fd =
      let ks : kind_at ws s ≡ 4 = sym hs ∙ sym same ∙ h in
      let kd : kind_at wd d ≡ 4 = sym hd ∙ h in
      record {
        is = rw (array_node S ws ts s ks, array_node D wd td d kd, hk.is, hl.is) (parts.arrays _ _ _ _ _ _ (sym alike ∙ holds {t = r} refl e));
        onward = (rw hk.is (formed_array S ws ts s fs ks).1, rw hl.is (formed_array D wd td d fd kd).1);
      }

module _ (ws : List ℕ) (s : ℕ) (wd : List ℕ) (d : ℕ) {from to : ℕ} (hs : from ≡ kind_at ws s) (hd : to ≡ kind_at wd d) where
  pub turn_differ : {a : Bool} → (to ≡ from → ⊥) → a ≡ int_and_real from to → (ts td : List ℕ) → Turns has_path paths_to ws ts s wd td d (Answer a)
  turn_differ h e ts td S D fs fd =
      record {
        is =
            path_differ (node S ws ts s) (node D wd td d) (λ e. h (hd ∙ sym (tree_kind_lem D wd td d) ∙ e ∙ tree_kind_lem S ws ts s ∙ sym hs))
            ∙ ap₂ int_and_real (tree_kind_lem S ws ts s ∙ sym hs) (tree_kind_lem D wd td d ∙ sym hd)
            ∙ sym e;
        onward = tt;
      }

  module _ (same : to ≡ from) where
    pub turn_leaves : (to ≡ 3 → ⊥) → (to ≡ 4 → ⊥) → (ts td : List ℕ) → Turns has_path paths_to ws ts s wd td d (Answer true)
    turn_leaves h k ts td S D fs fd =
        record {
          is =
              path_leaves (node S ws ts s) (node D wd td d) (tree_kind_lem D wd td d ∙ sym hd ∙ same ∙ hs ∙ sym (tree_kind_lem S ws ts s))
              (λ e. h (hd ∙ sym (tree_kind_lem D wd td d) ∙ e)) (λ e. k (hd ∙ sym (tree_kind_lem D wd td d) ∙ e));
          onward = tt;
        }

    pub turn_others : to ≡ 4 → {r : Bool} → r ≡ same_dimensions (dimensions_at ws s) (dimensions_at wd d) → not r ≡ true
        → (ts td : List ℕ) → Turns has_path paths_to ws ts s wd td d (Answer false)
    unfolding has_path
    turn_others h {r} alike e ts td S D fs fd =
        let ks : kind_at ws s ≡ 4 = sym hs ∙ sym same ∙ h in
        let kd : kind_at wd d ≡ 4 = sym hd ∙ h in
        record { is = rw (array_node S ws ts s ks, array_node D wd td d kd, ← alike, fails {t = r} refl e) refl; onward = tt }

pub ruleset turn_laws = (rules, path_parts, turn_differ, turn_lists, turn_leaves, turn_others, turn_bases)

-- ---- into a member

module _ (ws ts : List ℕ) (s : ℕ) (wd td : List ℕ) (j : ℕ) {r : Option ℕ} (hr : NamedIn ws ts (name_at wd td j) (first_word ws s) (rows_word ws s) r) where
  abbrev in_found : (Datatype → Datatype → Bool) → (ℕ → Datatype) → Lookup → Bool
  in_found ask D = on_found (λ o T. ask T (D (member_type_word wd j))) true

  row_is : (S : ℕ → Datatype) (z : ℕ) → WellFormedIn z (members_of_type S ws ts s) → r ≡ row_named ws ts (name_at wd td j) (first_word ws s) (rows_word ws s)
  row_is S z formed = the_row ws ts (first_word ws s) (name_at wd td j) S z (rows_word ws s) formed hr

  named_is : (ask : Datatype → Datatype → Bool) (S D : ℕ → Datatype) (z : ℕ) {v : Option ℕ} → WellFormedIn z (members_of_type S ws ts s) → r ≡ v
      → ask_named ask D (members_of_type S ws ts s) wd td j ≡ in_found ask D (member_found S ws v)
  named_is ask S D z formed e =
      ap (in_found ask D) (member_named_lem ws ts (name_at wd td j) (first_word ws s) S (rows_word ws s) ∙ ap (member_found S ws) (sym (row_is S z formed) ∙ e))

  pub inner_neither : r ≡ None → (ask : Datatype → Datatype → Bool) → Inside ask ws ts s wd td j None
  inner_neither e ask f z fs fd = record { is = named_is ask (decode f ws ts) (decode f wd td) z fs e; onward = tt }

  pub inner_both : {m k l : ℕ} → r ≡ Some m → Reads (member_type_word ws m) k → Reads (member_type_word wd j) l → (ask : Datatype → Datatype → Bool)
      → Inside ask ws ts s wd td j (Some (record { source = k; destination = l }))
  inner_both e hk hl ask f z fs fd =
      record {
        is = named_is ask (decode f ws ts) (decode f wd td) z fs e ∙ rw (hk.is, hl.is) refl;
        onward = (
          rw hk.is (named_formed (decode f ws ts) ws ts z (first_word ws s) (name_at wd td j) (rows_word ws s) fs (sym (row_is (decode f ws ts) z fs) ∙ e)).1,
          rw hl.is fd,
        );
      }

pub ruleset inner_laws = (rules, inner_neither, inner_both)

-- ---- one level after the other

module _ {ask : Datatype → Datatype → Bool} {asks : Members → Members → Bool} (parts : ByParts ask asks) where
  pub ask_deep : (f : ℕ) (ws ts : List ℕ) (s : ℕ) (wd td : List ℕ) (d : ℕ) → f ≡ 0 → ask (decode f ws ts s) (decode f wd td d) ≡ true
  unfolding decode
  ask_deep f ws ts s wd td d e = rw e (parts.compounds _ _ _ _ ∙ parts.none _)

module _ {ask : Datatype → Datatype → Bool} {asks : Members → Members → Bool} (f : ℕ) (ws ts : List ℕ) (s : ℕ) (wd td : List ℕ) (d : ℕ) {r : Turn} (nonzero : f ≡ 0 → ⊥)
    (formed : WellFormed (decode f ws ts s) × WellFormed (decode f wd td d)) (turn : Turns ask asks ws ts s wd td d r) where
  pub turned : {v : Turn} → r ≡ v
      → Turned ask asks (decode (f - 1) ws ts) (decode (f - 1) wd td) (size_word ws s) (members_of_type (decode (f - 1) ws ts) ws ts s) (size_word wd d)
      (members_of_type (decode (f - 1) wd td) wd td d) (ask (decode f ws ts s) (decode f wd td d)) v
  turned e =
      let h : 0 < f = pos_of_ne-zero nonzero in
      rw (decode_step f ws ts s h, decode_step f wd td d h, ← e)
      (turn (decode (f - 1) ws ts) (decode (f - 1) wd td) (whole f ws ts s h formed.0) (whole f wd td d h formed.1))

module _ {ask : Datatype → Datatype → Bool} {asks : Members → Members → Bool} (parts : ByParts ask asks) (ss : Members) (wd td : List ℕ) (D : ℕ → Datatype) (first : ℕ) where
  pub lists_none : (n : ℕ) → n ≤ 0 → asks ss (members_at D wd td first n) ≡ true
  unfolding members_at
  lists_none zero h = parts.none ss
  lists_none (suc n) h = absurd (not-suc-le-zero h)

  lists_more : (n : ℕ) → 0 < n
      → asks ss (members_at D wd td first n) ≡ ask_named ask D ss wd td (first + (n - 1)) && asks ss (members_at D wd td first (n - 1))
  unfolding members_at
  lists_more zero h = absurd (not-suc-le-zero h)
  lists_more (suc n) h = rw sub-one (parts.more ss _ _ _ _ _)

-- the members of the destination compound d that are left to look at: n rows from first on
pub record Remains (ask : Datatype → Datatype → Bool) (asks : Members → Members → Bool) (f : ℕ) (ws ts : List ℕ) (s : ℕ) (wd td : List ℕ) (d first n : ℕ) : Type 0 where
  pub is : ask (decode f ws ts s) (decode f wd td d)
      ≡ asks (members_of_type (decode (f - 1) ws ts) ws ts s) (members_at (decode (f - 1) wd td) wd td first n)
  pub source : WellFormedIn (size_word ws s) (members_of_type (decode (f - 1) ws ts) ws ts s)
  pub destination : WellFormedIn (size_word wd d) (members_at (decode (f - 1) wd td) wd td first n)

module _ {ask : Datatype → Datatype → Bool} {asks : Members → Members → Bool} (parts : ByParts ask asks) (f : ℕ) (ws ts : List ℕ) (s : ℕ) (wd td : List ℕ) (d : ℕ) where
  pub lists_start : {first n : ℕ}
      → Turned ask asks (decode (f - 1) ws ts) (decode (f - 1) wd td) (size_word ws s) (members_of_type (decode (f - 1) ws ts) ws ts s) (size_word wd d)
      (members_of_type (decode (f - 1) wd td) wd td d) (ask (decode f ws ts s) (decode f wd td d)) Lists
      → Reads (first_word wd d) first → Reads (rows_word wd d) n → Remains ask asks f ws ts s wd td d first n
  lists_start turned hf hn =
      record {
        is = rw (hf.is, hn.is) turned.is;
        source = turned.onward.0;
        destination = rw (hf.is, hn.is) turned.onward.1;
      }

  module _ (first n : ℕ) {r : Option Inner} (rest : Remains ask asks f ws ts s wd td d first n) (h : 0 < n) (inner : Inside ask ws ts s wd td (first + (n - 1)) r) where
    entered : {v : Option Inner} → r ≡ v
        → Entered ask (decode (f - 1) ws ts) (decode (f - 1) wd td)
        (ask_named ask (decode (f - 1) wd td) (members_of_type (decode (f - 1) ws ts) ws ts s) wd td (first + (n - 1))) v
    entered e =
        rw (← e)
        (inner (f - 1) (size_word ws s) rest.source
        (row_formed (decode (f - 1) wd td) wd td (size_word wd d) first n h rest.destination).0)

    pub both_formed : {p : Inner} → r ≡ Some p → WellFormed (decode (f - 1) ws ts p.source) × WellFormed (decode (f - 1) wd td p.destination)
    both_formed e = (entered e).onward

    module _ {v : Option Inner} {a : Bool} (e : r ≡ v) (answer : a ≡ inner_after ask (decode (f - 1) ws ts) (decode (f - 1) wd td) v) where
      lists_next : ask (decode f ws ts s) (decode f wd td d)
          ≡ a && asks (members_of_type (decode (f - 1) ws ts) ws ts s) (members_at (decode (f - 1) wd td) wd td first (n - 1))
      lists_next =
          rest.is ∙ lists_more parts (members_of_type (decode (f - 1) ws ts) ws ts s) wd td (decode (f - 1) wd td) first n h
          ∙ rw ((entered e).is, ← answer) refl

      pub lists_fail : a ≡ false → ask (decode f ws ts s) (decode f wd td d) ≡ false
      lists_fail z = lists_next ∙ rw z refl

      pub lists_pass : a ≡ true → Remains ask asks f ws ts s wd td d first (n - 1)
      lists_pass z =
          record {
            is = lists_next ∙ rw z refl;
            source = rest.source;
            destination = (row_formed (decode (f - 1) wd td) wd td (size_word wd d) first n h rest.destination).1;
          }

  pub lists_done : (first n : ℕ) → Remains ask asks f ws ts s wd td d first n → n ≤ 0 → ask (decode f ws ts s) (decode f wd td d) ≡ true
  lists_done first n rest h = rest.is ∙ lists_none parts (members_of_type (decode (f - 1) ws ts) ws ts s) wd td (decode (f - 1) wd td) first n h
