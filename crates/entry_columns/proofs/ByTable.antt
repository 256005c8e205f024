-- The column of an entry between two enums, by the table that was found. Assumes nothing.
use mathlib.Core.Path.{◌≡◌, sym, subst, ◌∙◌}
use mathlib.Core.Logic.{⊎_elim}
use mathlib.Core.List.{List}
use Prim.Native.Nat.{ℕ, ◌+◌, ◌-◌, ◌*◌, ◌^◌, ◌≤◌, ◌<◌}
use native.Mathlib.Decide.{dec_le}
use native.Mathlib.Nat.{eq-or-lt_of_le, lt_of_not-le}
use native.Mathlib.Omega.{arith}
use lib.ListN.{length, get_or, take, drop}
use lib.Seq.{get_or-take, get_or-drop}
use Rattle.layout.specs.declared.Layout.{Layout}
use Rattle.table.specs.Table.{class_word, layout_at}
use Rattle.entry_code.specs.Code.{route_in}
use Rattle.plans.specs.PlanWords.{Pair}
use Rattle.plans.proofs.LeafSteps.{pair_valid}
use Rattle.column_words.specs.declared.Words.{Words}
use Rattle.column_words.specs.Words.{words_of, Fits}
use Rattle.column_words.proofs.Made.{words_fit_64}
use Rattle.blocks.specs.Blocks.{each_pair, raised_pairs}
use Rattle.symbol_columns.specs.Tables.{Usable}
use Rattle.symbol_columns.specs.Columns.{each_symbol, raised_symbols}
use Rattle.symbol_tables.specs.Symbols.{TableOf}
use Rattle.symbol_tables.proofs.Columns.{symbols_pairs, missing_pairs}
use Rattle.symbol_slots.specs.Tables.{table_in, TablesKept, HasTable, HasColumn}
use Rattle.symbol_slots.proofs.Slots.{type_few, part_is}

module _ {f g : ℕ} {ws wd words : List ℕ} {k : ℕ} (p : Pair f g ws wd words k) (enum : 4 ≤ route_in (get_or words k 0)) (tables : List ℕ)
    (kept : TablesKept tables ws p.source_text wd p.destination_text) (r : ℕ) (few : r < 4) (word : get_or (table_in tables r) 0 0 ≡ 64 * f + g + 1) where
  abbrev part : List ℕ
  part = take (544 * r + 544 - 544 * r) (drop (544 * r) tables)

  table_is : TableOf part ws p.source_text wd p.destination_text f g
  table_is =
      subst (λ (t : List ℕ). TableOf t ws p.source_text wd p.destination_text f g) (sym (part_is (544 * r) tables)) (kept r few f g (type_few wd g (pair_valid p).1) word)

  -- no sum of its lowest bits and its entries wraps
  pub table_low : get_or tables (544 * r + 2) 0 < 2 ^ 64 → get_or part 2 0 + get_or part 1 0 ≤ 2 ^ 64
  table_low fits =
      let e : get_or part 2 0 ≡ get_or tables (544 * r + 2) 0 =
      subst (λ (t : List ℕ). get_or t 2 0 ≡ get_or tables (544 * r + 2) 0) (sym (part_is (544 * r) tables))
      (get_or-take 544 (drop (544 * r) tables) 2 0 (omega arith) ∙ get_or-drop (544 * r) tables 2 0) in
      let none : 0 ≤ get_or part 1 0 = omega arith in
      ⊎_elim (λ (z : 0 ≡ get_or part 1 0). omega (arith, e, fits)) (λ (z : 0 < get_or part 1 0). omega (arith, table_is.low z, table_is.usable.few)) (eq-or-lt_of_le none)

  module _ {w : Words} (hw : w ≡ words_of (layout_at ws f) (layout_at wd g)) where
    pub table_usable : Usable part w.into
    unfolding words_of
    table_usable = rw hw table_is.usable

    pub table_fits : Fits 64 w
    table_fits = rw hw (words_fit_64 (pair_valid p).0 (pair_valid p).1)

    module _ (a s : ℕ) (src : List ℕ) (read : a + (layout_at ws f).size.0 ≤ s) (n : ℕ) (rows : n * s ≤ length src) where
      pub table_pairs : (b d : ℕ) (dst : List ℕ) {out : List ℕ} → out ≡ each_symbol part w b a s d src n dst → out ≡ each_pair p b a s d src n dst
      table_pairs b d dst e = e ∙ symbols_pairs p enum part table_is a s src read hw n rows b d dst

      pub table_raised : {one : ℕ} → one ≡ raised_symbols part w a s src n → one ≡ raised_pairs p a s src n
      table_raised e = e ∙ missing_pairs p enum part table_is a s src read hw n rows

-- ---- the class of the destination's type tells whether an entry leads into an enum

module _ {f g : ℕ} {ws wd words : List ℕ} {k : ℕ} (p : Pair f g ws wd words k) {class : ℕ} (is : class ≡ class_word wd g) where
  pub enum_route : class ≡ 2 → 4 ≤ route_in (get_or words k 0)
  enum_route e =
      elim (dec_le 4 (route_in (get_or words k 0))) [
        | yes h ↦ h
        | no low ↦ absurd (p.entry.plain (lt_of_not-le low) (sym is ∙ e))
      ]

  pub low_route : (class ≡ 2 → ⊥) → route_in (get_or words k 0) < 4
  low_route other =
      elim (dec_le 4 (route_in (get_or words k 0))) [
        | yes h ↦ absurd (other (is ∙ p.entry.enum h))
        | no low ↦ lt_of_not-le low
      ]

  pub enum_table : (tables : List ℕ) → class ≡ 2 → HasColumn tables words k f g → HasTable tables f g
  enum_table tables e has =
      ⊎_elim (λ (low : route_in (get_or words k 0) < 4). absurd (p.entry.plain low (sym is ∙ e))) (λ (table : HasTable tables f g). table) has
