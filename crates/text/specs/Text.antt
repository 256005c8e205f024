-- Text as bytes.
use Rattle.std.specs.Prelude.{cond, List, [], ◌∷◌, ℕ, zero, suc, eqb}
use Prim.Native.Char.{code}
use Prim.Native.String.{String, len, char_at}

abbrev bytes_from : String → ℕ → ℕ → List ℕ
bytes_from s i zero = []
bytes_from s i (suc n) = code (char_at s i) ∷ bytes_from s (suc i) n

-- the bytes of a quoted text, all of whose characters are ASCII
abbrev pub bytes : String → List ℕ
bytes s = bytes_from s 0 (len s)

abbrev pub tab : ℕ
tab = 9

abbrev pub newline : ℕ
newline = 10

abbrev pub minus : ℕ
minus = 45

-- b before the first piece
abbrev pub before : ℕ → List (List ℕ) → List (List ℕ)
before b [] = (b ∷ []) ∷ []
before b (p ∷ ps) = (b ∷ p) ∷ ps

-- the pieces of a text that the bytes c part: one more than there are bytes c, some perhaps empty
unfoldable pub split : ℕ → List ℕ → List (List ℕ)
split c [] = [] ∷ []
split c (b ∷ bs) = cond (eqb b c) ([] ∷ split c bs) (before b (split c bs))
