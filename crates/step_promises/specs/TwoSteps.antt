-- Document 02, 2026-14: "Two steps or one. We upgrade old logs by way of last year's layout." Three runs: r from A to B, q from B to C on the records that r left,
-- and p from A to C.
--
-- Forms: the form is a field of a run, and is free in each of the three. An answer and converted bytes mean the same in both forms. A cleared tail is left by a run
-- in place alone, and is as long as its source records are longer than C's: of it nothing is said. A plain form is a run with handling 1 (2026-10).
--
-- Words (2026-12): which leaves obey stop goes by the words of C and by the call's handling, which q and p share. So words in C need no condition, and those in
-- A and B do not matter: a source's have no effect, and A to B raises nothing that a word in B could stop.
use Rattle.std.specs.Prelude.{◌≡◌, ◌↔◌, true, List, ℕ, ◌*◌, ◌≤◌, length, take}
use Rattle.answer.specs.declared.Values.{Values}
use Rattle.layout.specs.declared.Layout.{Layout}
use Rattle.datatype.specs.Datatype.{Leaf, Datatype, Members, size}
use Rattle.datatype.specs.Datatype.Leaf.{real}
use Rattle.datatype.specs.Datatype.Datatype.{compound, array}
use Rattle.datatype.specs.Paths.{member_named}
use Rattle.datatype.specs.Paths.Lookup.{found}
use Rattle.datatype.specs.Matches.{match_at}
use Rattle.datatype.specs.Matches.Match.{matched}
use Rattle.datatype.specs.Handling.{wordless}
use Rattle.sheet.specs.Sheet.{sheet_of}
use Rattle.sheet.specs.Sheet.Sheet.{of_type}
use Rattle.runs.specs.Run.{Run, has_room, after}
use Rattle.runs.specs.Parts.{converted_bytes}
use Rattle.promises.specs.Runs.{answer_number, answer_fields, SameAnswer, IsDone, DoneWithoutException, RefusedBeforeStop, Types, SameConverted}
use Rattle.promises.specs.Demand3.{SameBackground}
use Rattle.promises.specs.SourceWords.{OtherSourceWords, WithoutEffect}

-- ---- the three runs

-- "accepted up to the check of exceptions"
abbrev pub Accepted : Run → Type 0
Accepted r = ¬ (RefusedBeforeStop r)

-- "Three sheets A, B, C, with A to B, B to C and A to C all accepted up to the check of exceptions"
pub record AllAccepted (A B C : Datatype) (r q p : Run) : Type 0 where
  pub A_to_B : Types r A B
  pub B_to_C : Types q B C
  pub A_to_C : Types p A C
  pub r_accepted : Accepted r
  pub q_accepted : Accepted q
  pub p_accepted : Accepted p

-- "B to C, run on the records that A to B left, and A to C", run on those that A to B was run on. What stands behind the records is free.
pub record SameRecords (A B : Datatype) (r q p : Run) : Type 0 where
  pub q_count : q.count ≡ r.count
  pub p_count : p.count ≡ r.count
  pub left : converted_bytes B q.count q.source ≡ converted_bytes B r.count (after r)
  pub source : take (p.count * size A) p.source ≡ take (r.count * size A) r.source

-- "with the same background and handling", of q and p; those of r are free
pub record SameBackgroundAndHandling (C : Datatype) (q p : Run) : Type 0 where
  pub background : SameBackground C q p
  pub handling : q.handling ≡ p.handling

-- ---- the names

-- a member of this name stands among ms
abbrev pub HasMember : List ℕ → Members → Type 0
HasMember x ms = (o : ℕ) × (T : Datatype) × (member_named x ms ≡ found o T)

-- "the member names that C shares with B": a name that both have
abbrev pub Shared : List ℕ → Members → Members → Type 0
Shared x ns ms = HasMember x ns × HasMember x ms

-- a "matched level": a compound that A, B and C have on the same way, by its members in each. The elements of an array are of one type, so they are one level.
pub data Level : Datatype → Datatype → Datatype → Members → Members → Members → Type 0 where
  here : {u v w : ℕ} {ls ms ns : Members} → Level (compound u ls) (compound v ms) (compound w ns) ls ms ns
  inside : {u v w i j k : ℕ} {ls ms ns ls' ms' ns' : Members} {A B C : Datatype} (x : List ℕ)
      → member_named x ls ≡ found i A → member_named x ms ≡ found j B → member_named x ns ≡ found k C → Level A B C ls' ms' ns'
      → Level (compound u ls) (compound v ms) (compound w ns) ls' ms' ns'
  element : {u v w : ℕ} {cs ds es : List ℕ} {ls ms ns : Members} {A B C : Datatype} → Level A B C ls ms ns
      → Level (array u cs A) (array v ds B) (array w es C) ls ms ns

-- "at every matched level the member names that C shares with B are those it shares with A"
pub record SameNames (A B C : Datatype) : Type 0 where
  pub at : (ls ms ns : Members) → Level A B C ls ms ns → (x : List ℕ) → Shared x ns ms ↔ Shared x ns ls

-- ---- the reals

abbrev pub IsReal : Leaf → Type 0
IsReal x = (l : Layout) × (x ≡ real l)

-- "no field on the way is a real": no field of A or of B that a field of C is matched with. C's own field may be one, for a real is given its number by the
-- other two alike.
pub record NoReals (A B C : Datatype) : Type 0 where
  pub of_A : (c a : ℕ) (x z : Leaf) → match_at A C c ≡ matched a x z → ¬ (IsReal x)
  pub of_B : (c b : ℕ) (y z : Leaf) → match_at B C c ≡ matched b y z → ¬ (IsReal y)

-- ---- the promise

-- "give the same answer, count included, and, if done, the same converted bytes"
pub record SameOutcome (C : Datatype) (q p : Run) : Type 0 where
  pub answers : SameAnswer q p
  pub converted : IsDone q → SameConverted C q p

-- "If A to B raises no exception, then B to C, run on the records that A to B left, and A to C, with the same background and handling, give the same answer"
abbrev pub TwoStepsOrOne : Type 0
TwoStepsOrOne =
    (A B C : Datatype) (r q p : Run) → AllAccepted A B C r q p → SameNames A B C → NoReals A B C → DoneWithoutException r → SameRecords A B r q p
    → SameBackgroundAndHandling C q p → SameOutcome C q p

-- ---- the same claim with a condition less, which does not hold

-- "Show also that without the names' condition it is false"
abbrev pub WithoutNames : Type 0
WithoutNames =
    (A B C : Datatype) (r q p : Run) → AllAccepted A B C r q p → NoReals A B C → DoneWithoutException r → SameRecords A B r q p
    → SameBackgroundAndHandling C q p → SameOutcome C q p

-- with a real on the way: STOP names the number that it was given, "sign and magnitude, or the 64 bits for a real" (2026-05)
abbrev pub WithReals : Type 0
WithReals =
    (A B C : Datatype) (r q p : Run) → AllAccepted A B C r q p → SameNames A B C → DoneWithoutException r → SameRecords A B r q p
    → SameBackgroundAndHandling C q p → SameOutcome C q p

-- where A to B is done, but with exceptions: a number that was clamped in B is not A's
abbrev pub WithExceptions : Type 0
WithExceptions =
    (A B C : Datatype) (r q p : Run) → AllAccepted A B C r q p → SameNames A B C → NoReals A B C → IsDone r → SameRecords A B r q p
    → SameBackgroundAndHandling C q p → SameOutcome C q p

-- ---- what is accepted

-- p is lent a table and room
pub record Lent (A C : Datatype) (p : Run) : Type 0 where
  pub table : 8192 ≤ length p.table
  pub room : has_room p.form p.count (size A) (size C) (length p.source) (length p.background) ≡ true

-- Of the three, A to C need not be asked for: where A to B and B to C are accepted, a path runs from A to C, and C has A's symbols.
abbrev pub AcceptedToo : Type 0
AcceptedToo =
    (A B C : Datatype) (r q p : Run) → SameNames A B C → Types r A B → Types q B C → Types p A C → Accepted r → Accepted q
    → p.count ≡ q.count → p.handling ≡ q.handling → Lent A C p → Accepted p

-- ---- words in A and B

-- The three runs need not agree on them: q' is q and p' is p, but for the words in their source sheets.
abbrev pub WhateverWords : Type 0
WhateverWords =
    (A B C : Datatype) (r q p q' p' : Run) → AllAccepted A B C r q p → SameNames A B C → NoReals A B C → DoneWithoutException r → SameRecords A B r q p
    → SameBackgroundAndHandling C q p → OtherSourceWords q q' → OtherSourceWords p p' → SameOutcome C q' p'

-- And A to B may have any words in B: r' is r but for the words in its destination sheet, and for the handling.
pub record OtherDestinationWords (r r' : Run) : Type 0 where
  pub form : r.form ≡ r'.form
  pub handling : r'.handling ≤ 1
  pub source_sheet : r.source_sheet ≡ r'.source_sheet
  pub first : Datatype
  pub second : Datatype
  pub first_sheet_lem : sheet_of r.destination_sheet ≡ of_type first
  pub second_sheet_lem : sheet_of r'.destination_sheet ≡ of_type second
  pub same_without : wordless first ≡ wordless second
  pub count : r.count ≡ r'.count
  pub source : r.source ≡ r'.source
  pub background : r.background ≡ r'.background
  pub table_length : length r.table ≡ length r'.table

-- Where no exception is raised, neither shows.
abbrev pub WhateverFirst : Type 0
WhateverFirst = (r r' : Run) → OtherDestinationWords r r' → DoneWithoutException r → WithoutEffect r r'

-- ---- what holds with reals: all but the number that STOP names

-- an answer's fields but for that number
abbrev pub without_given : Values → Values
without_given v = record { count = v.count; line = v.line; «record» = v.«record»; at = v.at; kind = v.kind; given = 0; magnitude = 0 }

pub record SameOutcomeButGiven (C : Datatype) (q p : Run) : Type 0 where
  pub number : answer_number q ≡ answer_number p
  pub fields : without_given (answer_fields q) ≡ without_given (answer_fields p)
  -- so a run that is done answers the same in every field
  pub done : IsDone q → SameOutcome C q p

abbrev pub AlsoWithReals : Type 0
AlsoWithReals =
    (A B C : Datatype) (r q p : Run) → AllAccepted A B C r q p → SameNames A B C → DoneWithoutException r → SameRecords A B r q p
    → SameBackgroundAndHandling C q p → SameOutcomeButGiven C q p
