-- What the checks tell of a call, and what a call answers and leaves. Assumes nothing.
use mathlib.Core.Path.{◌≡◌, refl, sym, ap, ◌∙◌, subst, subst₂}
use mathlib.Core.Logic.{◌⊎◌, inl, inr}
use mathlib.Core.Bool.{true, false}
use mathlib.Core.List.{[], ◌++◌}
use Prim.Native.Nat.{ℕ, ◌*◌, ◌≤◌}
use native.Mathlib.Omega.{arith}
use lib.Dec.{leb}
use lib.ListN.{length, take, drop}
use lib.Seq.{take-append_seam}
use Rattle.answer.specs.declared.Answer.{Answer}
use Rattle.answer.specs.declared.Answer.TheVariants.{Done, Table, Source, Destination, Path, Count, Room, Channel, Full, Symbols}
use Rattle.answer.specs.Answer.{number_of, values_of}
use Rattle.datatype.specs.Datatype.{Datatype, size}
use Rattle.datatype.specs.Paths.{has_path}
use Rattle.datatype.specs.SymbolSets.{keeps_symbols}
use Rattle.datatype.specs.WellFormed.{WellFormed}
use Rattle.datatype.proofs.Tests.{and_true}
use Rattle.sheet.specs.Sheet.{sheet_of}
use Rattle.sheet.specs.Sheet.Sheet.{of_type}
use Rattle.sheet.proofs.ReadWellFormed.{read_well_formed}
use Rattle.records.specs.Records.{readings, in_place_result}
use Rattle.records.specs.Records as records
use Rattle.records.proofs.Results.{in_place_converted}
use Rattle.runs.specs.Run.{has_room}
use Rattle.runs.specs.Run.Form.{in_place}
use Rattle.runs.specs.Run.Checked.{refused, passed}
use Rattle.runs.proofs.Checks.{refused_or_passed, required, sheet_read, Refusals, require_refuses, sheet_refuses, room_behind, room_in_place}
use Rattle.channels.specs.Channels.{channels, all_narrow}
use Rattle.channels.specs.Report.{Report, held_in, holding, takes}
use Rattle.channels.specs.Shown.{shown}
use Rattle.channels.proofs.Added.{rows_length, held_length, holds}
use Rattle.reports.specs.Call.{Call, width, held_before, report_of, text, room_for, checks, answer, log_after, memory_after, output_after}
use Rattle.reports.specs.Parts.{answer_number, IsDone, written, Types, record_size, source_size, reader_size, converted_records}

-- ---- answers

pub answer_is : (c : Call) (S D : Datatype) → checks c ≡ passed S D → answer c ≡ Done (length (text c S D))
unfolding answer
answer_is c S D e = rw e

-- ---- a call that is refused

-- a refusal is not done, and has no length
abbrev Bare : Answer → Type 0
Bare a = (1 ≤ number_of a) × ((values_of a).count ≡ 0)

checks_bare : (c : Call) → Refusals Bare (checks c)
unfolding checks
checks_bare c =
    require_refuses Bare (leb 8192 (length c.table)) Table _ (λ e. (omega arith, refl))
    (sheet_refuses Bare (sheet_of c.source_sheet) Source _ (λ k. (omega arith, refl))
    (λ S s. sheet_refuses Bare (sheet_of c.reader_sheet) Destination _ (λ k. (omega arith, refl))
    (λ D d. require_refuses Bare (all_narrow (channels D)) Channel _ (λ e. (omega arith, refl))
    (require_refuses Bare (has_path S D) Path _ (λ e. (omega arith, refl))
    (require_refuses Bare (keeps_symbols S D) Symbols _ (λ e. (omega arith, refl))
    (require_refuses Bare (leb c.count 65536) Count _ (λ e. (omega arith, refl))
    (require_refuses Bare (room_for c S D) Room _ (λ e. (omega arith, refl))
    (require_refuses Bare (takes c.count (held_before c D)) Full _ (λ e. (omega arith, refl))
    (require_refuses Bare (leb (length (text c S D)) (length c.output)) Room (passed S D) (λ e. (omega arith, refl)) tt)))))))))

module _ (c : Call) (a : Answer) (e : checks c ≡ refused a) where
  pub refused_bare : (1 ≤ number_of a) × ((values_of a).count ≡ 0)
  refused_bare = subst (Refusals Bare) e (checks_bare c)

  pub answer_refused : answer c ≡ a
  unfolding answer
  answer_refused = rw e

  pub log_refused : log_after c ≡ c.log
  unfolding log_after
  log_refused = rw e

  pub memory_refused : memory_after c ≡ c.memory
  unfolding memory_after
  memory_refused = rw e

  pub output_refused : output_after c ≡ c.output
  unfolding output_after
  output_refused = rw e

  pub written_refused : written c ≡ []
  written_refused = ap (λ (n : ℕ). take n (output_after c)) (ap (λ (x : Answer). (values_of x).count) answer_refused ∙ refused_bare.1)

-- what 11 FULL tells: the report that is held takes no n records more
abbrev Full_tells : Call → Answer → Type 0
Full_tells c a = number_of a ≡ 11 → (D : Datatype) × (sheet_of c.reader_sheet ≡ of_type D) × (takes c.count (held_before c D) ≡ false)

checks_full : (c : Call) → Refusals (Full_tells c) (checks c)
unfolding checks
checks_full c =
    require_refuses (Full_tells c) (leb 8192 (length c.table)) Table _ (λ e n. absurd (omega (arith, n)))
    (sheet_refuses (Full_tells c) (sheet_of c.source_sheet) Source _ (λ k n. absurd (omega (arith, n)))
    (λ S s. sheet_refuses (Full_tells c) (sheet_of c.reader_sheet) Destination _ (λ k n. absurd (omega (arith, n)))
    (λ D d. require_refuses (Full_tells c) (all_narrow (channels D)) Channel _ (λ e n. absurd (omega (arith, n)))
    (require_refuses (Full_tells c) (has_path S D) Path _ (λ e n. absurd (omega (arith, n)))
    (require_refuses (Full_tells c) (keeps_symbols S D) Symbols _ (λ e n. absurd (omega (arith, n)))
    (require_refuses (Full_tells c) (leb c.count 65536) Count _ (λ e n. absurd (omega (arith, n)))
    (require_refuses (Full_tells c) (room_for c S D) Room _ (λ e n. absurd (omega (arith, n)))
    (require_refuses (Full_tells c) (takes c.count (held_before c D)) Full _ (λ e n. (D, d, e))
    (require_refuses (Full_tells c) (leb (length (text c S D)) (length c.output)) Room (passed S D) (λ e n. absurd (omega (arith, n))) tt)))))))))

pub full_tells : (c : Call) → answer_number c ≡ 11 → (D : Datatype) × (sheet_of c.reader_sheet ≡ of_type D) × (takes c.count (held_before c D) ≡ false)
full_tells c n = at (refused_or_passed (checks c))
  where
    at : ((a : Answer) × (checks c ≡ refused a)) ⊎ ((S : Datatype) × (D : Datatype) × (checks c ≡ passed S D))
        → (D : Datatype) × (sheet_of c.reader_sheet ≡ of_type D) × (takes c.count (held_before c D) ≡ false)
    at (inl (a, e)) = subst (Refusals (Full_tells c)) e (checks_full c) (sym (ap number_of (answer_refused c a e)) ∙ n)
    at (inr (S, D, e)) = absurd (omega (arith, n, ap number_of (answer_is c S D e)))

-- ---- a call that passes

-- what is known of a call that no check refuses
pub record Passed (c : Call) (S D : Datatype) : Type 0 where
  pub table : leb 8192 (length c.table) ≡ true
  pub types : Types c S D
  pub narrow : all_narrow (channels D) ≡ true
  pub path : has_path S D ≡ true
  pub symbols : keeps_symbols S D ≡ true
  pub count : leb c.count 65536 ≡ true
  pub room : room_for c S D ≡ true
  pub takes : takes c.count (held_before c D) ≡ true
  pub output : leb (length (text c S D)) (length c.output) ≡ true

module _ (c : Call) (S D : Datatype) where
  pub passed_tells : checks c ≡ passed S D → Passed c S D
  unfolding checks
  passed_tells e =
      let c₁ = required (leb 8192 (length c.table)) Table _ e in
      let c₂ = sheet_read (sheet_of c.source_sheet) Source _ c₁.1 in
      let c₃ = sheet_read (sheet_of c.reader_sheet) Destination _ c₂.2 in
      let c₄ = required (all_narrow (channels c₃.0)) Channel _ c₃.2 in
      let c₅ = required (has_path c₂.0 c₃.0) Path _ c₄.1 in
      let c₆ = required (keeps_symbols c₂.0 c₃.0) Symbols _ c₅.1 in
      let c₇ = required (leb c.count 65536) Count _ c₆.1 in
      let c₈ = required (room_for c c₂.0 c₃.0) Room _ c₇.1 in
      let c₉ = required (takes c.count (held_before c c₃.0)) Full _ c₈.1 in
      let c₁₀ = required (leb (length (text c c₂.0 c₃.0)) (length c.output)) Room _ c₉.1 in
      let p : passed c₂.0 c₃.0 ≡ passed S D = c₁₀.1 in
      let i : c₂.0 ≡ S = cc in
      let j : c₃.0 ≡ D = cc in
      subst₂ (Passed c) i j
      (record {
        table = c₁.0;
        types = record { source = c₂.1; reader = c₃.1 };
        narrow = c₄.0;
        path = c₅.0;
        symbols = c₆.0;
        count = c₇.0;
        room = c₈.0;
        takes = c₉.0;
        output = c₁₀.0;
      })

  pub tells_passed : Passed c S D → checks c ≡ passed S D
  unfolding checks
  tells_passed w = rw (w.table, w.types.source, w.types.reader, w.narrow, w.path, w.symbols, w.count, w.room, w.takes, w.output)

-- a call that is done passes, with the types of its sheets
pub done_passes : (c : Call) → IsDone c → (S : Datatype) × (D : Datatype) × (checks c ≡ passed S D)
done_passes c d = at (refused_or_passed (checks c))
  where
    at : ((a : Answer) × (checks c ≡ refused a)) ⊎ ((S : Datatype) × (D : Datatype) × (checks c ≡ passed S D))
        → (S : Datatype) × (D : Datatype) × (checks c ≡ passed S D)
    at (inl (a, e)) = absurd (omega (arith, (refused_bare c a e).0, d, ap number_of (answer_refused c a e)))
    at (inr p) = p

module _ (c : Call) (S D : Datatype) where
  pub done_passed : Types c S D → IsDone c → checks c ≡ passed S D
  done_passed t d =
      let x = done_passes c d in
      let p = passed_tells c x.0 x.1 x.2 in
      let i : x.0 ≡ S = cc (t.source, p.types.source) in
      let j : x.1 ≡ D = cc (t.reader, p.types.reader) in
      subst₂ (λ (X Y : Datatype). checks c ≡ passed X Y) i j x.2

  module _ (e : checks c ≡ passed S D) where
    pub log_is : log_after c ≡ in_place_result S D c.count c.log c.background
    unfolding log_after
    log_is = rw e

    pub memory_is : memory_after c ≡ holding (width D) (report_of c S D) c.memory
    unfolding memory_after
    memory_is = rw e

    pub output_is : output_after c ≡ text c S D ++ drop (length (text c S D)) c.output
    unfolding output_after
    output_is = rw e

    pub written_is : written c ≡ text c S D
    written_is = rw (answer_is c S D e, output_is) (take-append_seam (text c S D) (drop (length (text c S D)) c.output))

    -- ---- sizes and room

    tells : Passed c S D
    tells = passed_tells c S D e

    pub source_formed_lem : WellFormed S
    source_formed_lem = read_well_formed c.source_sheet S tells.types.source

    pub reader_formed_lem : WellFormed D
    reader_formed_lem = read_well_formed c.reader_sheet D tells.types.reader

    pub source_size_lem : source_size c ≡ size S
    source_size_lem = ap record_size tells.types.source

    pub reader_size_lem : reader_size c ≡ size D
    reader_size_lem = ap record_size tells.types.reader

    pub has_room_lem : has_room in_place c.count (size S) (size D) (length c.log) (length c.background) ≡ true
    has_room_lem = (and_true (has_room in_place c.count (size S) (size D) (length c.log) (length c.background)) _ tells.room).0

    pub source_room : c.count * size S ≤ length c.log
    source_room = (room_in_place c.count (size S) (size D) (length c.log) (length c.background) has_room_lem).0

    pub background_room_lem : c.count * size D ≤ length c.background
    background_room_lem = room_behind in_place c.count (size S) (size D) (length c.log) (length c.background) has_room_lem

    -- ---- what it leaves

    -- the converted records are made of what is read of the log
    pub converted_is : converted_records c ≡ records.converted_records S D c.count (readings S D c.log) c.background
    converted_is = rw (log_is, reader_size_lem) (in_place_converted S D source_formed_lem reader_formed_lem c.count c.log c.background background_room_lem)

    pub report_length : length (report_of c S D).rows ≡ width D
    unfolding report_of
    report_length = rows_length S D c.count (readings S D c.log) (channels D) (held_in (width D) c.memory).rows (held_length c.memory 2 (width D))

    -- the memory holds the new report
    pub held_after_lem : held_in (width D) (memory_after c) ≡ report_of c S D
    held_after_lem = ap (held_in (width D)) memory_is ∙ holds (width D) (report_of c S D) c.memory report_length

    -- and the output shows what it holds
    pub written_held : written c ≡ shown (channels D) (held_in (width D) (memory_after c)).rows
    written_held = written_is ∙ ap (λ (s : Report). shown (channels D) s.rows) (sym held_after_lem)
