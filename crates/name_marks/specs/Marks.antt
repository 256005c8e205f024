-- Notes of a sheet's rows in the words of its half behind the records: a mark for each name, and for each type where its members end.
use Rattle.std.specs.Prelude.{cond, List, [], ◌∷◌, ℕ, ◌+◌, ◌*◌, ◌%◌, leb, get_or, set}

-- the mark of a name, one of 512; h is that of the bytes before
unfoldable pub mark_from : ℕ → List ℕ → ℕ
mark_from h [] = h
mark_from h (b ∷ bs) = mark_from ((31 * h + b) % 512) bs

abbrev pub mark_of : List ℕ → ℕ
mark_of x = mark_from 0 x

-- the word at the mark of the name x
abbrev pub mark_word : List ℕ → List ℕ → ℕ
mark_word w x = get_or w (3072 + mark_of x) 0

-- where the members of type i end
abbrev pub end_word : List ℕ → ℕ → ℕ
end_word w i = get_or w (3584 + i) 0

-- w with n at the mark k
unfoldable pub mark_put : List ℕ → ℕ → ℕ → List ℕ
mark_put w k n = set w (3072 + k) n

-- w where the members of type i end at e or behind it
unfoldable pub end_raised : List ℕ → ℕ → ℕ → List ℕ
end_raised w i e = cond (leb e (end_word w i)) w (set w (3584 + i) e)
