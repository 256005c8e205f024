-- Document 02, 2026-01: "over many logs". A season is a row of logs for one reader's sheet, each log with a source sheet of its own and cut anywhere into parts,
-- each part a call.
use Rattle.std.specs.Prelude.{◌≡◌, List, [], ◌∷◌, ◌++◌, ℕ, ◌+◌, take, replicate, ℤ, pos}
use Rattle.sheet.specs.Sheet.{Sheet, sheet_of}
use Rattle.sheet.specs.Sheet.Sheet.{of_type, faulty_at}
use Rattle.channels.specs.Report.{words}
use Rattle.reports.specs.Call.{Call, width, answer, memory_after}
use Rattle.reports.specs.Parts.{IsDone, written, source_records}

-- ---- calls, one after the other

-- the calls cs are made in this order, the first on the memory m and each later one on what the one before it left, and none is refused
abbrev pub Follow : List ℤ → List Call → Type 0
Follow m [] = Unit {0}
Follow m (c ∷ cs) = (c.memory ≡ m) × IsDone c × Follow (memory_after c) cs

-- the memory that they leave
abbrev pub left_by : List ℤ → List Call → List ℤ
left_by m [] = m
left_by m (c ∷ cs) = left_by (memory_after c) cs

abbrev pub Each : (Call → Type 0) → List Call → Type 0
Each P [] = Unit {0}
Each P (c ∷ cs) = P c × Each P cs

-- each has this source sheet, each has this reader's sheet
abbrev pub Source : List ℕ → List Call → Type 0
Source sheet cs = Each (λ c. c.source_sheet ≡ sheet) cs

abbrev pub Reader : List ℕ → List Call → Type 0
Reader sheet cs = Each (λ c. c.reader_sheet ≡ sheet) cs

-- their source records, one behind the other, and how many these are
abbrev pub records_of : List Call → List ℕ
records_of [] = []
records_of (c ∷ cs) = source_records c ++ records_of cs

abbrev pub count_of : List Call → ℕ
count_of [] = 0
count_of (c ∷ cs) = c.count + count_of cs

-- the last of the calls c, cs
abbrev pub last_of : Call → List Call → Call
last_of c [] = c
last_of c (e ∷ cs) = last_of e cs

-- ---- logs

-- a log, cut into one or more parts
pub record Log : Type 0 where
  pub first : Call
  pub later : List Call

abbrev pub parts : Log → List Call
parts g = g.first ∷ g.later

abbrev pub parts_of : List Log → List Call
parts_of [] = []
parts_of (g ∷ gs) = parts g ++ parts_of gs

-- one log, cut in two ways: one source sheet, and the same records
pub record OneLogCutTwoWays (g h : Log) : Type 0 where
  pub sheet : List ℕ
  pub source : Source sheet (parts g)
  pub source' : Source sheet (parts h)
  pub count : count_of (parts g) ≡ count_of (parts h)
  pub records : records_of (parts g) ≡ records_of (parts h)

-- log by log
abbrev pub SameLogs : List Log → List Log → Type 0
SameLogs [] [] = Unit {0}
SameLogs [] (h ∷ hs) = ⊥
SameLogs (g ∷ gs) [] = ⊥
SameLogs (g ∷ gs) (h ∷ hs) = OneLogCutTwoWays g h × SameLogs gs hs

-- ---- seasons

-- one or more logs
pub record Season : Type 0 where
  pub first : Log
  pub later : List Log

abbrev pub logs : Season → List Log
logs s = s.first ∷ s.later

abbrev pub calls : Season → List Call
calls s = parts_of (logs s)

abbrev pub last_call : Season → Call
last_call s = last_of s.first.first (s.first.later ++ parts_of s.later)

-- two rows of calls over the same logs, cut differently, for one reader's sheet and from one memory, and no call of either is refused
pub record SameSeason (reader_sheet : List ℕ) (entry : List ℤ) (s t : Season) : Type 0 where
  pub reader : Reader reader_sheet (calls s)
  pub reader' : Reader reader_sheet (calls t)
  pub logs : SameLogs (logs s) (logs t)
  pub follow : Follow entry (calls s)
  pub follow' : Follow entry (calls t)

-- they end in the same memory, and their last calls have the same answer and write the same text
pub record SeasonAlike (entry : List ℤ) (s t : Season) : Type 0 where
  pub memory : left_by entry (calls s) ≡ left_by entry (calls t)
  pub answer : answer (last_call s) ≡ answer (last_call t)
  pub output : written (last_call s) ≡ written (last_call t)

-- ---- "one report takes at most 1,048,576 records"

-- the words of the report for a reader's sheet
abbrev pub report_words : Sheet → ℕ
report_words (of_type D) = words (width D)
report_words (faulty_at line) = 0

-- "zeros at first"
abbrev pub Zeros : List ℕ → List ℤ → Type 0
Zeros reader_sheet memory = take (report_words (sheet_of reader_sheet)) memory ≡ replicate (report_words (sheet_of reader_sheet)) (pos 0)

-- the calls cs, from zeros on, none of them refused, and then the call c
pub record Behind (reader_sheet : List ℕ) (entry : List ℤ) (cs : List Call) (c : Call) : Type 0 where
  pub zeros : Zeros reader_sheet entry
  pub reader : Reader reader_sheet (c ∷ cs)
  pub follow : Follow entry cs
  pub goes_on : c.memory ≡ left_by entry cs
