-- Document 02, 2026-06: a log compared with what a run made of it, over whole calls.
use Rattle.std.specs.Prelude.{◌≡◌, true, ◌++◌, ◌*◌, ◌≤◌, length, take, drop}
use Rattle.answer.specs.declared.Answer.TheVariants.{Done}
use Rattle.datatype.specs.Datatype.{Datatype, size}
use Rattle.runs.specs.Run.{Run, has_room, after}
use Rattle.runs.specs.Run.Form.{copying}
use Rattle.runs.specs.Parts.{converted_bytes}
use Rattle.differences.specs.Differences.{header}
use Rattle.differences.specs.Call.{Call, answer, list_after}

-- c compares the records that the run r was given with those that it made, between the same sheets, with a table that no check refuses and room for the logs and
-- for the header. What stands behind the records is free.
pub record AgainstOwn (S D : Datatype) (r : Run) (c : Call) : Type 0 where
  pub first_sheet : c.first_sheet ≡ r.source_sheet
  pub second_sheet : c.second_sheet ≡ r.destination_sheet
  pub count : c.count ≡ r.count
  pub first : take (r.count * size S) c.first ≡ take (r.count * size S) r.source
  pub second : converted_bytes D r.count c.second ≡ converted_bytes D r.count (after r)
  pub room : has_room copying r.count (size S) (size D) (length c.first) (length c.second) ≡ true
  pub list : length header ≤ length c.list
  pub table : 8192 ≤ length c.table

-- nothing is listed
pub record NothingListed (c : Call) : Type 0 where
  -- done, and the list is as long as its header
  pub answers : answer c ≡ Done (length header)
  -- the header alone, and the bytes behind it as they were
  pub lists : list_after c ≡ header ++ drop (length header) c.list
