-- Document 02, 2026-12: which handling a leaf obeys, by the words of the members on its way.
use Rattle.std.specs.Prelude.{◌≡◌, cond, List, [], ◌∷◌, ◌++◌, ℕ, ◌-◌, ◌%◌}
use Rattle.datatype.specs.Datatype.{Leaf, Datatype, Members, size}
use Rattle.datatype.specs.declared.Word.{Word}
use Rattle.datatype.specs.declared.Word.TheVariants.{Silent, Clamp, Stop}
use Rattle.datatype.specs.Datatype.Datatype.{leaf, compound, array}
use Rattle.datatype.specs.Datatype.Members.{empty, member}
use Rattle.datatype.specs.Leaves.{within}
use Rattle.datatype.specs.Matches.{match_at}
use Rattle.datatype.specs.Matches.Match.{matched}

-- "Handling 0 (clamp)", "handling 1 (stop)"
abbrev pub clamp : ℕ
clamp = 0

abbrev pub stop : ℕ
stop = 1

-- the handling that a word asks for in place of h; a silent member leaves h as it is
abbrev pub asked : Word → ℕ → ℕ
asked Silent h = h
asked Clamp h = clamp
asked Stop h = stop

-- an inner word before an outer one
abbrev pub or_outer : Word → Word → Word
or_outer Silent outer = outer
or_outer Clamp outer = Clamp
or_outer Stop outer = Stop

-- the word of "the innermost member on its way that has the word", of the leaf that starts at byte b; silent where none has one
unfoldable mutual
  pub word_at : Datatype → ℕ → Word
  word_at (leaf y) b = Silent
  word_at (compound z ms) b = word_in ms b
  word_at (array z ds T) b = word_at T (b % size T)

  pub word_in : Members → ℕ → Word
  word_in empty b = Silent
  word_in (member x offset T word ms) b = cond (within offset (size T) b) (or_outer (word_at T (b - offset)) word) (word_in ms b)

-- "A leaf obeys the innermost member on its way that has the word, else the call": the handling of the leaf that starts at byte b, in a call with handling h
unfoldable pub handling_at : ℕ → Datatype → ℕ → ℕ
handling_at h D b = asked (word_at D b) h

-- in a call with handling h, each matched leaf obeys clamp
abbrev pub AllClamp : ℕ → Datatype → Datatype → Type 0
AllClamp h S D = (b a : ℕ) (x y : Leaf) → match_at S D b ≡ matched a x y → handling_at h D b ≡ clamp

-- ---- the same in the paper's words: `word_at` computes it

-- the words of the members on the way to the leaf that starts at byte b, the outermost first
unfoldable mutual
  pub words_at : Datatype → ℕ → List Word
  words_at (leaf y) b = []
  words_at (compound z ms) b = words_in ms b
  words_at (array z ds T) b = words_at T (b % size T)

  pub words_in : Members → ℕ → List Word
  words_in empty b = []
  words_in (member x offset T word ms) b = cond (within offset (size T) b) (word ∷ words_at T (b - offset)) (words_in ms b)

abbrev pub AllSilent : List Word → Type 0
AllSilent [] = Unit {0}
AllSilent (word ∷ words) = (word ≡ Silent) × AllSilent words

-- the innermost of some members that has a word, and its word; or none has
pub data Innermost : List Word → Word → Type 0 where
  none_has : {words : List Word} → AllSilent words → Innermost words Silent
  has : (outer : List Word) (word : Word) (inner : List Word) → ¬ (word ≡ Silent) → AllSilent inner → Innermost (outer ++ (word ∷ inner)) word

-- ---- a datatype without its words

abbrev mutual
  pub wordless : Datatype → Datatype
  wordless (leaf y) = leaf y
  wordless (compound z ms) = compound z (wordless_in ms)
  wordless (array z ds T) = array z ds (wordless T)

  pub wordless_in : Members → Members
  wordless_in empty = empty
  wordless_in (member x offset T word ms) = member x offset (wordless T) Silent (wordless_in ms)
