-- The column of an entry by its kind, and what it asks for. Assumes nothing.
use mathlib.Core.Path.{◌≡◌, refl, sym, ◌∙◌}
use mathlib.Core.Bool.{Bool, true, false, false≢true}
use mathlib.Core.Logic.{⊎_elim}
use mathlib.Core.List.{List}
use Prim.Native.Nat.{ℕ, ◌+◌, ◌*◌, ◌≤◌, ◌<◌}
use native.Mathlib.Nat.{eq-or-lt_of_le, le_of_suc-le-suc}
use lib.ListN.{length, get_or}
use Rattle.layout.specs.declared.Layout.{Layout}
use Rattle.layout.specs.Layout.{Valid}
use Rattle.table.specs.Table.{layout_at}
use Rattle.entry_code.specs.Code.{route_in}
use Rattle.plans.specs.PlanWords.{one_real, Pair}
use Rattle.column_words.specs.declared.Words.{Words}
use Rattle.column_words.specs.Words.{words_of}
use Rattle.column_words.proofs.Made.{words_fit_64, words_fit_32}
use Rattle.blocks.specs.Blocks.{each_made, raised_made, each_number, raised_numbers, each_pair, raised_pairs}
use Rattle.blocks.proofs.Merge.{made_numbers, made_raised}
use Rattle.blocks.proofs.Leaves.{numbers_pairs, raised_pairs_lem}
use Rattle.columns.specs.Plain.{Sized}
use Rattle.real_columns.specs.Reals.{each_real, raised_reals}
use Rattle.real_columns.proofs.Over.{reals_pairs, raised_reals_pairs}

-- ---- the words of two types that have valid layouts

module _ (l m : Layout) (v : Valid l) (u : Valid m) {w : Words} (hw : w ≡ words_of l m) where
  -- they fit
  pub words_sized : Sized w
  unfolding words_of
  words_sized = rw hw (record { wide = words_fit_64 v u; narrow = λ a b. words_fit_32 v u a b })

  -- and have the sizes of the containers
  pub words_read : (a s : ℕ) → a + l.size.0 ≤ s → a + w.source_size ≤ s
  unfolding words_of
  words_read a s h = rw hw h

  pub words_write : (b d : ℕ) → b + m.size.0 ≤ d → b + w.size ≤ d
  unfolding words_of
  words_write b d h = rw hw h

  -- a column by them is the column of the layouts
  module _ (a s : ℕ) (src : List ℕ) (read : a + l.size.0 ≤ s) (k : ℕ) (rows : k * s ≤ length src) where
    pub count_made : {one : ℕ} → one ≡ raised_made w a s src k → one ≡ raised_numbers l m a s src k
    count_made e = e ∙ made_raised l m v u a s src read hw k rows

    pub column_made : (b d : ℕ) (dst : List ℕ) {out : List ℕ} → out ≡ each_made w b a s d src k dst → out ≡ each_number l m b a s d src k dst
    column_made b d dst e = e ∙ made_numbers l m v u a s src read hw k rows b d dst

-- ---- the types' classes tell the kind of an entry that leads into no enum

module _ {f g : ℕ} {ws wd words : List ℕ} {place : ℕ} (p : Pair f g ws wd words place) (low : route_in (get_or words place 0) < 4) {t : Bool} (is : t ≡ one_real ws f wd g) where
  plain_route : t ≡ false → route_in (get_or words place 0) < 3
  plain_route alike =
      ⊎_elim (λ (z : route_in (get_or words place 0) ≡ 3). absurd (false≢true (sym alike ∙ (is ∙ p.entry.mixed z)))) (λ (z : route_in (get_or words place 0) < 3). z)
      (eq-or-lt_of_le (le_of_suc-le-suc low))

  pub real_route : t ≡ true → route_in (get_or words place 0) ≡ 3
  real_route mixed =
      ⊎_elim (λ (z : route_in (get_or words place 0) ≡ 3). z) (λ (z : route_in (get_or words place 0) < 3). absurd (false≢true (sym (is ∙ p.entry.alike z) ∙ mixed)))
      (eq-or-lt_of_le (le_of_suc-le-suc low))

  module _ (a s : ℕ) (src : List ℕ) (k : ℕ) where
    -- what was counted is what the pair raises
    pub plain_count : {one : ℕ} → t ≡ false → one ≡ raised_numbers (layout_at ws f) (layout_at wd g) a s src k → one ≡ raised_pairs p a s src k
    plain_count alike e = e ∙ raised_pairs_lem p (plain_route alike) refl refl a s src k

    pub real_count : {one : ℕ} → t ≡ true → one ≡ raised_reals ws f wd g a s src k → one ≡ raised_pairs p a s src k
    real_count mixed e = e ∙ raised_reals_pairs p (real_route mixed) a s src k

    -- and what was written is what it becomes
    module _ (b d : ℕ) (dst : List ℕ) {out : List ℕ} where
      pub plain_pairs : t ≡ false → out ≡ each_number (layout_at ws f) (layout_at wd g) b a s d src k dst → out ≡ each_pair p b a s d src k dst
      plain_pairs alike e = e ∙ numbers_pairs p (plain_route alike) refl refl b a s d src k dst

      pub real_pairs : t ≡ true → out ≡ each_real ws f wd g b a s d src k dst → out ≡ each_pair p b a s d src k dst
      real_pairs mixed e = e ∙ reals_pairs p (real_route mixed) b a s d src k dst
