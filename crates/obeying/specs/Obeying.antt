-- One step down to the leaf at a byte, and the word that is met; and the leaves that obey stop.
use Rattle.std.specs.Prelude.{Option, Some, None, ◌≡◌, List, ℕ, ◌+◌, ◌<◌}
use Rattle.datatype.specs.declared.Word.{Word}
use Rattle.datatype.specs.declared.Word.TheVariants.{Silent}
use Rattle.datatype.specs.Datatype.{Datatype, size}
use Rattle.datatype.specs.Handling.{asked, or_outer, word_at, handling_at}
use Rattle.datatype.specs.Matches.{match_at}
use Rattle.datatype.specs.Matches.Match.{unmatched}
use Rattle.datatype.specs.WellFormed.{WellFormed}
use Rattle.table.specs.Table.{class_word, base_word, first_word, rows_word, member_type_word, word_at_row, node}
use Rattle.paths.specs.Steps.{Sized}
use Rattle.obeying.specs.declared.Down.{Down}

abbrev pub word_after : (ℕ → Datatype) → Option Down → Word
word_after D (Some r) = or_outer (word_at (D r.type_number) r.byte) r.word
word_after D None = Silent

abbrev pub WordStep : List ℕ → ℕ → ℕ → Option Down → Type 0
WordStep w i b r = (D : ℕ → Datatype) (t : List ℕ) → Sized D w → word_at (node D w t i) b ≡ word_after D r

-- of the n rows from first on, members of type i, none has a word that asks for another handling than h, and each is of a type before i
abbrev pub RowsObey : List ℕ → ℕ → ℕ → ℕ → ℕ → Type 0
RowsObey w h i first n = (j : ℕ) → j < n → (asked (word_at_row w (first + j)) h ≡ h) × (member_type_word w (first + j) < i)

-- no member of type i has such a word, and what it is made of are types before i
pub record TypeObeys (w : List ℕ) (h i : ℕ) : Type 0 where
  pub members : class_word w i ≡ 3 → RowsObey w h i (first_word w i) (rows_word w i)
  pub elements : class_word w i ≡ 4 → base_word w i < i

-- of D, the leaves that obey stop in a call with handling h are left in E
pub record StopsOf (h : ℕ) (D E : Datatype) : Type 0 where
  pub formed : WellFormed E
  pub sized : size E ≡ size D
  pub stops : (S : Datatype) (b : ℕ) → ¬ (handling_at h D b ≡ 0) → match_at S E b ≡ match_at S D b
  pub clamps : (S : Datatype) (b : ℕ) → handling_at h D b ≡ 0 → match_at S E b ≡ unmatched
