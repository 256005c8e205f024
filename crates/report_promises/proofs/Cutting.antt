-- A log that is cut gives the same report. Assumes nothing.
use mathlib.Core.Path.{◌≡◌, refl, sym, ap, ap₂, ◌∙◌}
use mathlib.Core.List.{List, [], ◌∷◌, ◌++◌, append-nil}
use Prim.Native.Nat.{ℕ, ◌+◌, ◌*◌, ◌≤◌, ◌<◌}
use native.Mathlib.Omega.{arith}
use lib.ListN.{length, take}
use Rattle.datatype.specs.Datatype.{Datatype, size}
use Rattle.records.specs.Record.{reading, converted_record}
use Rattle.records.specs.Records.{record_at, readings, converted_at, joined}
use Rattle.records.proofs.ManyRecords.{joined_alike}
use Rattle.runs.specs.Run.Checked.{passed}
use Rattle.reports.specs.Call.{Call, checks}
use Rattle.reports.specs.Parts.{Types, converted_records}
use Rattle.reports.proofs.Pieces.{in_front, front_length, in_first_lem, in_second_lem, joined_cut}
use Rattle.reports.proofs.Checks.{passed_tells, done_passes, done_passed, source_size_lem, reader_size_lem, source_room, background_room_lem, converted_is}
use Rattle.report_promises.specs.Cutting.{Cut, NoneRefused, CutAlike}
use Rattle.report_promises.specs.Season.{Season, SeasonAlike}
use Rattle.report_promises.proofs.Season.{seasons}

-- ---- the report: a season of one log, cut or not

module _ (whole first second : Call) (d : NoneRefused whole first second) (k : Cut whole first second) where
  abbrev parted : Season
  parted = record { first = record { first = first; later = second ∷ [] }; later = [] }

  abbrev uncut : Season
  uncut = record { first = record { first = whole; later = [] }; later = [] }

  cut_alike : SeasonAlike whole.memory parted uncut
  cut_alike =
      seasons whole.reader_sheet whole.memory parted uncut
      (record {
        reader = (k.first_reader, (k.second_reader, tt));
        reader' = (refl, tt);
        logs = (
          record {
            sheet = whole.source_sheet;
            source = (k.first_source, (k.second_source, tt));
            source' = (refl, tt);
            count = omega (arith, k.count);
            records = rw (append-nil, append-nil) (sym k.records);
          },
          tt,
        );
        follow = (k.starts, d.first_done, (k.goes_on, d.second_done, tt));
        follow' = (refl, d.whole_done, tt);
      })

-- ---- the converted records

module _ (S D : Datatype) (whole first second : Call) (pw : checks whole ≡ passed S D) (pf : checks first ≡ passed S D) (ps : checks second ≡ passed S D)
    (k : Cut whole first second) where
  -- records of w bytes in two buffers, one behind the other
  module _ (w : ℕ) (x y z : List ℕ) (rx : whole.count * w ≤ length x) (ry : first.count * w ≤ length y) (rz : second.count * w ≤ length z)
      (e : take (whole.count * w) x ≡ take (first.count * w) y ++ take (second.count * w) z) where
    abbrev a : ℕ
    a = first.count

    y_length : length (take (a * w) y) ≡ a * w
    y_length = front_length w a y ry

    in_y : (i : ℕ) → i < a → record_at w i x ≡ record_at w i y
    in_y i h =
        sym (in_front w whole.count x rx i (omega (arith, k.count)))
        ∙ ap (record_at w i) e
        ∙ in_first_lem w a (take (a * w) y) (take (second.count * w) z) y_length i h
        ∙ in_front w a y ry i h

    in_z : (i : ℕ) → i < second.count → record_at w (a + i) x ≡ record_at w i z
    in_z i h =
        sym (in_front w whole.count x rx (a + i) (omega (arith, k.count)))
        ∙ ap (record_at w (a + i)) e
        ∙ in_second_lem w a (take (a * w) y) (take (second.count * w) z) y_length i
        ∙ in_front w second.count z rz i h

  source_cut : take (whole.count * size S) whole.log ≡ take (first.count * size S) first.log ++ take (second.count * size S) second.log
  source_cut = rw (source_size_lem whole S D pw, source_size_lem first S D pf, source_size_lem second S D ps) at k.records

  background_cut : take (whole.count * size D) whole.background
      ≡ take (first.count * size D) first.background ++ take (second.count * size D) second.background
  background_cut = rw (reader_size_lem whole S D pw, reader_size_lem first S D pf, reader_size_lem second S D ps) at k.background

  -- record i of a call
  abbrev made : Call → ℕ → List ℕ
  made c i = converted_at S D (readings S D c.log) c.background i

  made_alike : (i j : ℕ) (c : Call) → record_at (size S) i whole.log ≡ record_at (size S) j c.log → record_at (size D) i whole.background ≡ record_at (size D) j c.background
      → made whole i ≡ made c j
  made_alike i j c p q = ap₂ (λ (r b : List ℕ). converted_record S D (reading S D r) b) p q

  made_first : (i : ℕ) → i < first.count → made whole i ≡ made first i
  made_first i h =
      made_alike i i first
      (in_y (size S) whole.log first.log second.log (source_room whole S D pw) (source_room first S D pf) (source_room second S D ps) source_cut i h)
      (in_y (size D) whole.background first.background second.background (background_room_lem whole S D pw) (background_room_lem first S D pf) (background_room_lem second S D ps) background_cut i h)

  made_second : (i : ℕ) → i < second.count → made whole (first.count + i) ≡ made second i
  made_second i h =
      made_alike (first.count + i) i second
      (in_z (size S) whole.log first.log second.log (source_room whole S D pw) (source_room first S D pf) (source_room second S D ps) source_cut i h)
      (in_z (size D) whole.background first.background second.background (background_room_lem whole S D pw) (background_room_lem first S D pf) (background_room_lem second S D ps) background_cut i h)

  cut_converted : converted_records whole ≡ converted_records first ++ converted_records second
  cut_converted =
      converted_is whole S D pw
      ∙ ap (joined (made whole)) k.count
      ∙ joined_cut (made whole) first.count second.count
      ∙ ap₂ (λ (x y : List ℕ). x ++ y)
      (joined_alike (made whole) (made first) first.count made_first)
      (joined_alike (λ i. made whole (first.count + i)) (made second) second.count made_second)
      ∙ ap₂ (λ (x y : List ℕ). x ++ y) (sym (converted_is first S D pf)) (sym (converted_is second S D ps))

-- ---- the promise

-- "Cutting a log between records, anywhere, gives the same report, if neither the whole nor a part is refused."
pub cutting : (whole first second : Call) → NoneRefused whole first second → Cut whole first second → CutAlike whole first second
cutting whole first second d k =
    let x = done_passes whole d.whole_done in
    let S : Datatype = x.0 in
    let D : Datatype = x.1 in
    let t : Types whole S D = (passed_tells whole S D x.2).types in
    let pf : checks first ≡ passed S D = done_passed first S D (record { source = rw k.first_source t.source; reader = rw k.first_reader t.reader }) d.first_done in
    let ps : checks second ≡ passed S D = done_passed second S D (record { source = rw k.second_source t.source; reader = rw k.second_reader t.reader }) d.second_done in
    let s = cut_alike whole first second d k in
    record {
      memory = s.memory;
      answer = s.answer;
      output = s.output;
      converted = sym (cut_converted S D whole first second x.2 pf ps k);
    }
