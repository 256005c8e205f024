-- Answers, the list and the table after a call. Assumes nothing.
use Rattle.std.specs.Prelude.{Result, Ok, Err}
use mathlib.Core.Path.{◌≡◌, refl, sym, ap, ◌∙◌}
use mathlib.Core.Bool.{Bool, true, false, cond}
use mathlib.Core.List.{List, ◌++◌}
use Prim.Native.Nat.{ℕ, zero, suc, ◌+◌, ◌-◌, ◌≤◌, ◌<◌}
use native.Mathlib.Omega.{arith}
use borrow.Author.Rules.{rules}
use borrow.Author.Tests.{le-leb, lt-leb}
use lib.Dec.{leb}
use lib.ListN.{length, drop, replicate, length-append}
use Rattle.answer.specs.declared.Answer.{Answer}
use Rattle.answer.specs.declared.Answer.TheVariants.{Done, Table, Source, Room}
use Rattle.datatype.specs.Datatype.{Datatype, size}
use Rattle.datatype.proofs.Matches.{size_most}
use Rattle.table.specs.Table.{size_word, decode, type_at}
use Rattle.table.specs.Words.{Reads}
use Rattle.table.proofs.Made.{node_size}
use Rattle.sheet_steps.specs.declared.Counts.{Counts}
use Rattle.sheet_steps.specs.declared.FaultyLine.{FaultyLine}
use Rattle.sheet.specs.Sheet.{Sheet, sheet_of}
use Rattle.sheet.specs.Sheet.Sheet.{of_type, faulty_at}
use Rattle.sheet_steps.specs.Read.{ReadsSheet}
use Rattle.sheet_steps.proofs.Types.{sheet_fault, sheet_type, type_formed}
use Rattle.runs.specs.Run.{cleared, table_after}
use Rattle.runs.proofs.Table.{half_cleared}
use Rattle.text.specs.Written.{written}
use Rattle.text.proofs.Written.{written_front}
use Rattle.leaf_lines.specs.LeafList.{leaf_lines, header, leaf_list}
use Rattle.leaves.specs.Call.{list_answer, answer_of, list_after, Lists}

-- ---- a type

size_decode : (f : ℕ) (w t : List ℕ) (i : ℕ) → size (decode f w t i) ≡ size_word w i
unfolding decode
size_decode zero w t i = refl
size_decode (suc f) w t i = node_size (decode f w t) w t i

module _ (w t : List ℕ) (i : ℕ) {z n : ℕ} (sized : Reads (size_word w i) z) (counted : n ≡ length (leaf_lines (type_at w t i) 0 z)) where
  T : Datatype
  T = type_at w t i

  list_is : leaf_list T ≡ header ++ leaf_lines T 0 z
  unfolding leaf_list T
  list_is = let e : size (type_at w t i) ≡ z = size_decode 64 w t i ∙ sym sized.is in ap (λ (k : ℕ). header ++ leaf_lines (type_at w t i) 0 k) e

  list_length : length (leaf_list T) ≡ 14 + n
  unfolding T
  list_length = ap length list_is ∙ length-append header (leaf_lines T 0 z) ∙ omega (arith, counted)

  pub lists_room : (d : List ℕ) → length d < 14 + n → Lists (of_type (type_at w t i)) d d Room
  unfolding T
  lists_room d h = record { answer = rw (lt-leb (length (leaf_list T)) (length d) (omega (arith, list_length))) refl; list = refl }

  pub lists_done : (d : List ℕ) {f : List ℕ} → 14 + n ≤ length d → f ≡ written d 0 (header ++ leaf_lines (type_at w t i) 0 z) → Lists (of_type (type_at w t i)) d f (Done (14 + n))
  unfolding T
  lists_done d h e =
      record {
        answer = rw (le-leb (length (leaf_list T)) (length d) (omega (arith, list_length))) (ap Done (sym list_length));
        list = e ∙ ap (λ (l : List ℕ). written d 0 l) (sym list_is) ∙ written_front d (leaf_list T);
      }

-- ---- a sheet

module _ (t w : List ℕ) {r : Result Counts FaultyLine} (read : ReadsSheet t w r) where
  module _ {c : Counts} (e : r ≡ Ok c) where
    types : ReadsSheet t w (Ok c)
    types = rw e at read

    pub type_some : 1 ≤ c.types
    type_some = types.stands.some

    pub type_small : size_word w (c.types - 1) ≤ 4096
    type_small = rw (size_decode 64 w t (c.types - 1)) at (size_most (type_at w t (c.types - 1)) (type_formed t w c types))

    pub sheet_lists : {d f : List ℕ} {a : Answer} → ((u : List ℕ) → Lists (of_type (type_at w u (c.types - 1))) d f a) → Lists (sheet_of t) d f a
    sheet_lists h = rw (sheet_type t w c types) (h t)

  pub fault_lists : {f : FaultyLine} → r ≡ Err f → (d : List ℕ) → Lists (sheet_of t) d d (Source f.0)
  fault_lists {f} e d = rw (sheet_fault t w f (rw e at read)) record { answer = refl; list = refl }

pub ruleset sheet_laws = (rules, type_some, type_small, sheet_lists, fault_lists)

-- ---- the call

module _ (s d : List ℕ) (n : ℕ) where
  pub short_answer : n < 8192 → Table ≡ answer_of s (length d) n
  unfolding answer_of
  short_answer h = rw (lt-leb 8192 n h)

  pub short_list : n < 8192 → d ≡ list_after s d n
  unfolding list_after
  short_list h = rw (← (short_answer h)) refl

  module _ {f : List ℕ} {r : Answer} (h : 8192 ≤ n) (lists : Lists (sheet_of s) d f r) where
    pub long_answer : r ≡ answer_of s (length d) n
    unfolding answer_of
    long_answer = rw (le-leb 8192 n h) lists.answer

    pub long_list : f ≡ list_after s d n
    unfolding list_after
    long_list = rw (← long_answer) lists.list

-- ---- the table

list_clears : (s : Sheet) (n : ℕ) (t : List ℕ) → table_after (list_answer s n) t ≡ cleared t
list_clears (faulty_at k) n t = refl
list_clears (of_type T) n t = go (leb (length (leaf_list T)) n)
  where
    go : (x : Bool) → table_after (cond x (Done (length (leaf_list T))) Room) t ≡ cleared t
    go true = refl
    go false = refl

-- the first half came back as e, and then all was cleared
pub table_done : (t e s : List ℕ) {d f : List ℕ} {r : Answer} → Lists (sheet_of s) d f r → length e ≡ 4096
    → replicate 8192 0 ++ drop 8192 (e ++ drop 4096 t) ≡ table_after r t
table_done t e s {d} lists h =
    half_cleared t e h ∙ sym (ap (λ (a : Answer). table_after a t) lists.answer ∙ list_clears (sheet_of s) (length d) t)
