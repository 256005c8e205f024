-- What follows where the checks of a call answer. Assumes nothing.
use Rattle.std.specs.Prelude.{Result, Ok, Err}
use mathlib.Core.Path.{◌≡◌, refl, sym, ap, subst, ◌∙◌}
use mathlib.Core.Bool.{Bool, true, false, not, ◌&&◌}
use mathlib.Core.List.{List}
use Prim.Native.Nat.{ℕ, ◌-◌, ◌*◌, ◌≤◌, ◌<◌, max}
use native.Mathlib.Nat.{le_trans, mul-le-mul_left, le-max_left, le-max_right}
use native.Mathlib.Omega.{arith}
use borrow.Author.Tests.{le-leb, lt-leb, leb-true, leb-false}
use lib.Dec.{leb}
use lib.ListN.{length, take, drop}
use Rattle.answer.specs.declared.Answer.{Answer}
use Rattle.answer.specs.declared.Answer.TheVariants as answer
use Rattle.datatype.specs.Datatype.{Datatype, size}
use Rattle.datatype.specs.Paths.{has_path}
use Rattle.datatype.specs.SymbolSets.{keeps_symbols}
use Rattle.datatype.proofs.Matches.{size_most}
use Rattle.datatype.proofs.Tests.{and_true}
use Rattle.table.specs.Table.{decode, type_at, size_word}
use Rattle.table.specs.Words.{Reads}
use Rattle.table.proofs.Made.{node_size}
use Rattle.sheet.specs.Sheet.{sheet_of}
use Rattle.runs.specs.Run.{has_room, target}
use Rattle.runs.specs.Run.Checked.{refused, passed}
use Rattle.two_sheets.specs.declared.TypeNumbers.{TypeNumbers}
use Rattle.two_sheets.specs.declared.SheetFault.{SheetFault}
use Rattle.two_sheets.specs.declared.SheetFault.TheVariants.{Source, Destination}
use Rattle.two_sheets.specs.TwoSheets.{first, second, IsSheet, refusal, ReadAs, SheetsRead, Both}
use Rattle.two_sheets.proofs.Halves.{rest_is, types_both}
use Rattle.conversion.specs.Call.{form_of, source_of, background_of, HasRecords, ConvertsIn, sheets_checked, records_checked, types_checked, Passes, RecordsSay, TypesSay, SheetsSay}
use Rattle.conversion.proofs.Parts.{no_path, lost_symbols, behind_types, many, no_room, all_pass, denied, granted, product_fits, copying_short, copying_small, copying_room, in_place_short, in_place_grown, in_place_small, in_place_room, source_faulty, destination_faulty, both_read}

-- ---- room

module _ (b : Bool) (n S D out other : ℕ) where
  abbrev Room : Bool → Type 0
  Room t = t ≡ has_room (form_of b) n S D (source_of b out other) (background_of b out other)

  pub place_short : b ≡ true → out < n * S → Room false
  place_short e h = rw e (sym (in_place_short n S D out other h))

  pub place_grown : b ≡ true → out < n * D → Room false
  place_grown e h = rw e (sym (in_place_grown n S D out other h))

  pub place_rest : b ≡ true → n * S ≤ out → n * D ≤ out → Room (leb (n * D) other)
  place_rest e g h = rw e (rest (leb (n * D) other) refl)
    where
      rest : (t : Bool) → leb (n * D) other ≡ t → t ≡ has_room (form_of true) n S D out other
      rest true q = sym (in_place_room n S D out other g h (leb-true (n * D) other q))
      rest false q = sym (in_place_small n S D out other g h (leb-false (n * D) other q))

  pub copy_short : b ≡ false → other < n * S → Room false
  copy_short e h = rw e (sym (copying_short n S D other out h))

  pub copy_rest : b ≡ false → n * S ≤ other → Room (leb (n * D) out)
  copy_rest e g = rw (e, le-leb (n * S) other g) refl

-- what room means
pub has_records : (b : Bool) (n S D out other : ℕ) → n ≤ 65536 → has_room (form_of b) n S D (source_of b out other) (background_of b out other) ≡ true → HasRecords b n S D out other
has_records false n S D out other few h =
    let t = and_true (leb (n * S) other) (leb (n * D) out) h in
    (few, leb-true (n * S) other t.0, leb-true (n * D) out t.1)
has_records true n S D out other few h =
    let t = and_true (leb (n * max S D) out) (leb (n * D) other) h in
    let most : n * max S D ≤ out = leb-true (n * max S D) out t.0 in
    (few, le_trans (mul-le-mul_left n (le-max_left S D)) most, le_trans (mul-le-mul_left n (le-max_right S D)) most, leb-true (n * D) other t.1)

-- which form it is
pub records_as : {b t : Bool} (n s d out other : ℕ) → b ≡ t → HasRecords b n s d out other → HasRecords t n s d out other
records_as n s d out other e h = subst (λ (x : Bool). HasRecords x n s d out other) e h

pub converts_as : {b t : Bool} (S D : Datatype) (n : ℕ) (out other after : List ℕ) (r : ℕ) → b ≡ t → ConvertsIn t S D n out other after r → ConvertsIn b S D n out other after r
converts_as S D n out other after r e h = subst (λ (x : Bool). ConvertsIn x S D n out other after r) (sym e) h

-- the buffer that is written
pub target_is : (b : Bool) (out other : List ℕ) → target (form_of b) (source_of b out other) (background_of b out other) ≡ out
target_is false out other = refl
target_is true out other = refl

pub size_type : (w t : List ℕ) (i : ℕ) → size (type_at w t i) ≡ size_word w i
unfolding decode
size_type w t i = node_size (decode 63 w t) w t i

-- a size that was read is the type's
pub read_size : (w t : List ℕ) (i : ℕ) {s : ℕ} → Reads (size_word w i) s → s ≡ size (type_at w t i)
read_size w t i r = r.is ∙ sym (size_type w t i)

-- such a type goes with the small arrays
pub is_small : (ds wd : List ℕ) (k : ℕ) {d : ℕ} → Reads (size_word wd k) d → d ≤ 128 → size (type_at wd ds k) ≤ 128
is_small ds wd k r h = rw (size_type wd ds k, ← r.is) h

-- ---- types

module _ (b : Bool) (ss ds : List ℕ) (n out other : ℕ) (ws : List ℕ) (i : ℕ) (wd : List ℕ) (k : ℕ) (types : Both ss ws i ds wd k) where
  abbrev S : Datatype
  S = type_at ws ss i

  abbrev D : Datatype
  D = type_at wd ds k

  pub refuse_count : 65536 < n → RecordsSay b ss ds n out other ws i wd k (Err answer.Count)
  refuse_count g = many (form_of b) n (source_of b out other) (background_of b out other) S D g

  module _ (few : n ≤ 65536) {s d : ℕ} (rs : Reads (size_word ws i) s) (rd : Reads (size_word wd k) d) where
    source_size_lem : s ≡ size (type_at ws ss i)
    source_size_lem = read_size ws ss i rs

    destination_size_lem : d ≡ size (type_at wd ds k)
    destination_size_lem = read_size wd ds k rd

    pub sizes_fit : (n ≤ 65536) × (s ≤ 4096) × (d ≤ 4096)
    sizes_fit = (few, rw source_size_lem (size_most S types.source), rw destination_size_lem (size_most D types.destination))

    module _ {r : Bool} (room : r ≡ has_room (form_of b) n s d (source_of b out other) (background_of b out other)) where
      pub refuse_room : not r ≡ true → RecordsSay b ss ds n out other ws i wd k (Err answer.Room)
      refuse_room q = no_room (form_of b) n (source_of b out other) (background_of b out other) S D few s d source_size_lem destination_size_lem (denied _ _ room q)

      pub pass_records : not r ≡ false → RecordsSay b ss ds n out other ws i wd k (Ok (record { source = i; destination = k }))
      pass_records q = (
        refl,
        refl,
        all_pass (form_of b) n (source_of b out other) (background_of b out other) S D few s d source_size_lem destination_size_lem (granted _ _ room q),
        record {
          types = types;
          records = has_records b n (size S) (size D) out other few (rw (source_size_lem, destination_size_lem) at (granted _ _ room q));
        },
      )

  module _ {p : Bool} (path : p ≡ has_path (type_at ws ss i) (type_at wd ds k)) where
    pub refuse_path : not p ≡ true → TypesSay b ss ds n out other ws i wd k (Err answer.Path)
    refuse_path h = no_path (form_of b) n (source_of b out other) (background_of b out other) S D (denied _ _ path h)

    module _ (h : not p ≡ false) {q : Bool} (kept : q ≡ keeps_symbols (type_at ws ss i) (type_at wd ds k)) where
      pub refuse_symbols : not q ≡ true → TypesSay b ss ds n out other ws i wd k (Err answer.Symbols)
      refuse_symbols g = lost_symbols (form_of b) n (source_of b out other) (background_of b out other) S D (granted _ _ path h) (denied _ _ kept g)

      -- behind the path and the symbols, the checks of the records are left
      module _ (g : not q ≡ false) where
        records_left : types_checked b n out other (type_at ws ss i) (type_at wd ds k) ≡ records_checked b n out other (type_at ws ss i) (type_at wd ds k)
        records_left = behind_types (form_of b) n (source_of b out other) (background_of b out other) S D (granted _ _ path h) (granted _ _ kept g)

        pub types_say : (r : Result TypeNumbers Answer) → RecordsSay b ss ds n out other ws i wd k r → TypesSay b ss ds n out other ws i wd k r
        types_say (Err a) f = records_left ∙ f
        types_say (Ok t) f = (f.0, f.1, records_left ∙ f.2, f.3)

-- ---- sheets

module _ (b : Bool) (ss ds : List ℕ) (n out other : ℕ) (w : List ℕ) (i k : ℕ) (read : IsSheet ss (first w) i × IsSheet ds (second w) k) where
  -- the second half as a part of the table
  abbrev rest : List ℕ
  rest = take (length w - 4096) (drop 4096 w)

  pub halves_both : Both ss (first w) i ds rest k
  halves_both = rw (rest_is w) (types_both ss ds w i k read)

  checked_is : sheets_checked b ss ds n out other ≡ types_checked b n out other (type_at (first w) ss i) (type_at (second w) ds k)
  checked_is = both_read (form_of b) ss ds n (source_of b out other) (background_of b out other) read.0.type read.1.type

  pub halves_say : (r : Result TypeNumbers Answer) → TypesSay b ss ds n out other (first w) i rest k r → SheetsSay b ss ds n out other w r
  halves_say (Err a) h = checked_is ∙ rw (rest_is w) at h
  halves_say (Ok t) h =
      let g = rw (rest_is w) at h in
      rw (g.0, g.1) (checked_is ∙ g.2, g.3)

-- a faulty sheet
module _ (b : Bool) (ss ds : List ℕ) (n out other : ℕ) (w : List ℕ) where
  fault_refuses : (f : SheetFault) → ReadAs ss ds w (Err f) → SheetsSay b ss ds n out other w (Err (refusal f))
  fault_refuses (Source k) is = source_faulty (form_of b) ss ds n (source_of b out other) (background_of b out other) k is
  fault_refuses (Destination k) is = destination_faulty (form_of b) ss ds n (source_of b out other) (background_of b out other) k is.0.1.type is.1

  pub fault_says : {r : Result TypeNumbers SheetFault} {f : SheetFault} → SheetsRead ss ds w r → r ≡ Err f → SheetsSay b ss ds n out other w (Err (refusal f)) × (length w ≡ 8192)
  fault_says {f = f} reads e = (fault_refuses f (subst (ReadAs ss ds w) e reads.is), reads.words)

pub types_of : (ss ds w : List ℕ) {r : Result TypeNumbers SheetFault} {t : TypeNumbers} → SheetsRead ss ds w r → r ≡ Ok t → ReadAs ss ds w (Ok t) × (length w ≡ 8192)
types_of ss ds w reads e = (subst (ReadAs ss ds w) e reads.is, reads.words)
