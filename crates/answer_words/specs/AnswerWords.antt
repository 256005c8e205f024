-- An answer as eight words.
use Rattle.std.specs.Prelude.{◌≡◌, List, [], ◌∷◌, ℕ}
use Rattle.answer.specs.declared.Answer.{Answer}
use Rattle.answer.specs.Answer.{number_of, values_of}

-- its number, and every field beside it
abbrev pub words_of : Answer → List ℕ
words_of a =
    number_of a ∷ (values_of a).count ∷ (values_of a).line ∷ (values_of a).«record» ∷ (values_of a).at ∷ (values_of a).kind
    ∷ (values_of a).given ∷ (values_of a).magnitude ∷ []

-- an answer given to C: the returned number r, and the words
pub record Gives (a : Answer) (r : ℕ) (words : List ℕ) : Type 0 where
  pub number : r ≡ number_of a
  pub written : words ≡ words_of a
