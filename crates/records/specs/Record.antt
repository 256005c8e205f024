-- Document 01, "Paths and conversion": one record. What is read of the source record, and what is made of that and of a background with no other look at the source.
use Rattle.std.specs.Prelude.{false, List, ℕ, zero, suc, ◌+◌, ℤ}
use Rattle.std.proofs.Math.Option.{Option, none, some}
use Rattle.answer.specs.declared.Given.{Given}
use Rattle.answer.specs.declared.Given.TheVariants.{Whole}
use Rattle.number.specs.Place.{stored}
use Rattle.datatype.specs.Datatype.{layout_of, Datatype, size}
use Rattle.datatype.specs.Symbols.{on_some}
use Rattle.datatype.specs.Matches.{on_match, match_at}
use Rattle.datatype.specs.Handling.{handling_at}
use Rattle.records.specs.Leaf.{number_in, converted}

-- the matched number of each destination leaf, by the byte at which the leaf starts
abbrev pub Reading : Type 0
Reading = ℕ → Option ℤ

-- all that is read of the source record r
unfoldable pub reading : Datatype → Datatype → List ℕ → Reading
reading S D r b = on_match (λ a x y. some (number_in x a r)) none (match_at S D b)

-- the record r with the leaf that starts at byte b written, if it is matched
unfoldable pub with_leaf : Datatype → Datatype → Reading → ℕ → List ℕ → List ℕ
with_leaf S D f b r = on_match (λ a x y. on_some (λ z. stored (layout_of y) b (converted x y z).raw r) r (f b)) r (match_at S D b)

-- with the leaves that start below byte k written
unfoldable pub with_leaves_below : Datatype → Datatype → Reading → ℕ → List ℕ → List ℕ
with_leaves_below S D f zero r = r
with_leaves_below S D f (suc k) r = with_leaf S D f k (with_leaves_below S D f k r)

-- "Every destination bit not fixed by a matched leaf is the background's."
abbrev pub converted_record : Datatype → Datatype → Reading → List ℕ → List ℕ
converted_record S D f background = with_leaves_below S D f (size D) background

-- the kind of the exception that the leaf at byte b raises, 0 for none
unfoldable pub kind_at : Datatype → Datatype → Reading → ℕ → ℕ
kind_at S D f b = on_match (λ a x y. on_some (λ z. (converted x y z).kind) 0 (f b)) 0 (match_at S D b)

-- what was given to it; 0 for none
abbrev pub nothing_given : Given
nothing_given = Whole false 0

unfoldable pub given_at : Datatype → Datatype → Reading → ℕ → Given
given_at S D f b = on_match (λ a x y. on_some (λ z. (converted x y z).given) nothing_given (f b)) nothing_given (match_at S D b)

abbrev pub raises : ℕ → ℕ
raises zero = 0
raises (suc kind) = 1

-- how many of the leaves that start below byte k raise one
unfoldable pub raised_below : Datatype → Datatype → Reading → ℕ → ℕ
raised_below S D f zero = 0
raised_below S D f (suc k) = raised_below S D f k + raises (kind_at S D f k)

-- byte b where the kind there is not 0, else what comes later
abbrev pub or_later : ℕ → ℕ → Option ℕ → Option ℕ
or_later b zero later = later
or_later b (suc kind) later = some b

-- "the raising leaf whose first byte is lowest", of the k bytes from b on, where `kind` says with which kind the leaf at a byte raises
unfoldable pub first_raising : (ℕ → ℕ) → ℕ → ℕ → Option ℕ
first_raising kind b zero = none
first_raising kind b (suc k) = or_later b (kind b) (first_raising kind (suc b) k)

-- document 02, 2026-12, of "a leaf that obeys stop": the kind with which the leaf at byte b stops a call with handling h, 0 where it raises nothing or obeys clamp
abbrev pub if_stop : ℕ → ℕ → ℕ
if_stop zero kind = 0
if_stop (suc h) kind = kind

unfoldable pub stop_kind_at : ℕ → Datatype → Datatype → Reading → ℕ → ℕ
stop_kind_at h S D f b = if_stop (handling_at h D b) (kind_at S D f b)
