-- Demand 2, what a call leaves, continued: the way back. Where a call raised no exception, the records that it left are converted with the two sheets exchanged,
-- and every matched number is the original one, if matched enums have equal symbol sets.
use Rattle.std.specs.Prelude.{◌≡◌, ◌⊎◌, true, ◌≤◌, length}
use Rattle.datatype.specs.Datatype.{Datatype, size}
use Rattle.datatype.specs.SymbolSets.{LostSymbol, EqualSymbols}
use Rattle.records.specs.Matched.{Agree}
use Rattle.runs.specs.Run.{Run, has_room, after}
use Rattle.runs.specs.Parts.{converted_bytes}
use Rattle.promises.specs.Runs.{answer_number, DoneWithoutException, Types}

-- q is r's way back: the sheets exchanged, the same count, and as source records the records that r left; with a handling and a table that no check refuses,
-- and room. The form, the handling, the background, and what stands behind the source records are free
pub record WayBack (S D : Datatype) (r q : Run) : Type 0 where
  pub source_sheet : q.source_sheet ≡ r.destination_sheet
  pub destination_sheet : q.destination_sheet ≡ r.source_sheet
  pub count : q.count ≡ r.count
  pub source : converted_bytes D q.count q.source ≡ converted_bytes D r.count (after r)
  pub handling : q.handling ≤ 1
  pub table : 8192 ≤ length q.table
  pub room : has_room q.form q.count (size D) (size S) (length q.source) (length q.background) ≡ true

-- it is done without an exception, and every matched number is the original one
pub record Returned (S D : Datatype) (r q : Run) : Type 0 where
  pub done : DoneWithoutException q
  pub numbers : Agree S D r.count (after q) r.source

-- Document 02, 2026-07: "Converting back, in demand 2, is now claimed only where matched enums have equal symbol sets." No less will do. Where r is done, they
-- have, or a destination enum has a symbol that the source enum which it is matched with lacks; and there r's way back q is refused with 12 SYMBOLS.
pub record OnlyWhereEqual (S D : Datatype) (q : Run) : Type 0 where
  pub equal_or_lost : EqualSymbols S D ⊎ LostSymbol D S
  pub refused : LostSymbol D S → answer_number q ≡ 12

-- the claim without that condition, which does not hold
abbrev pub AlwaysReturned : Type 0
AlwaysReturned = (r q : Run) (S D : Datatype) → Types r S D → DoneWithoutException r → WayBack S D r q → Returned S D r q
