-- Document 02, 2026-10: "From now on the plain forms, in place and copying, handle as 1." Assumes nothing.
use mathlib.Core.Path.{◌≡◌, refl, ap}
use mathlib.Core.List.{List}
use Prim.Native.Nat.{ℕ}
use lib.Dec.{leb}
use Rattle.answer.specs.declared.Answer.TheVariants.{Table}
use Rattle.datatype.specs.declared.Word.TheVariants.{Silent}
use Rattle.datatype.specs.Datatype.{Datatype}
use Rattle.datatype.specs.Handling.{stop, asked, word_at, handling_at}
use Rattle.runs.specs.Run.{Form, plain, require, sheet_checks, checks_of}

-- a plain form has no check 1: its first check is that of the table
pub no_check_1 : (form : Form) (ss ds : List ℕ) (n source background table : ℕ) → checks_of form plain ss ds n source background table ≡ require (leb 8192 table) Table (sheet_checks form ss ds n source background)
unfolding checks_of
no_check_1 form ss ds n source background table = refl

-- and in it a leaf on whose way no member has a word obeys stop
pub plain_stops : (D : Datatype) (b : ℕ) → word_at D b ≡ Silent → handling_at plain D b ≡ stop
unfolding handling_at
plain_stops D b e = ap (λ word. asked word plain) e
