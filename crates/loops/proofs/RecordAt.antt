-- Record i of a result, of d bytes, by what is read of source record i and by record i of the background. Assumes nothing.
use mathlib.Core.Path.{◌≡◌, sym, ap, ◌∙◌}
use mathlib.Core.List.{List, ◌++◌}
use Prim.Native.Nat.{ℕ, ◌*◌, ◌≤◌, ◌<◌}
use native.Mathlib.Omega.{arith}
use lib.ListN.{length, take, drop, length-drop}
use lib.Seq.{length-take-le, drop_at}
use Rattle.datatype.specs.Datatype.{Datatype, size}
use Rattle.datatype.specs.WellFormed.{WellFormed}
use Rattle.records.specs.Record.{reading, converted_record}
use Rattle.records.specs.Records.{readings, converted_records}
use Rattle.records.proofs.OneRecord.{length_below}
use Rattle.records.proofs.ManyRecords.{converted_at_lem, converted_length}
use Rattle.loops.proofs.Lists.{row_within}

abbrev pub record_at : Datatype → Datatype → ℕ → List ℕ → List ℕ → ℕ → List ℕ
record_at S D d source background i = converted_record S D (readings S D source i) (take d (drop (i * d) background))

-- what is read of the record that is s bytes long
pub same_reading : (S D : Datatype) (s : ℕ) → s ≡ size S → (source : List ℕ) (i : ℕ) → reading S D (take s (drop (i * s) source)) ≡ readings S D source i
same_reading S D s e source i = ap (λ (w : ℕ). reading S D (take w (drop (i * w) source))) e

module _ (S D : Datatype) (f : WellFormed S) (g : WellFormed D) (d : ℕ) (e : d ≡ size D) (c : ℕ) (source background : List ℕ) (room : c * d ≤ length background) where
  pub wide : c * size D ≤ length background
  wide = rw (← e) room

  pub record_length : (i : ℕ) → i < c → length (record_at S D d source background i) ≡ d
  record_length i h =
      let fits : length (take d (drop (i * d) background)) ≡ d = length-take-le d (drop (i * d) background) (rw length-drop (omega (arith, row_within d h))) in
      length_below S D f g (readings S D source i) (size D) (take d (drop (i * d) background)) (fits ∙ e) ∙ sym e

  pub record_in : (t : List ℕ) (i : ℕ) → i < c → take d (drop (i * d) (converted_records S D c (readings S D source) background ++ t)) ≡ record_at S D d source background i
  record_in t i h =
      ap (λ (w : ℕ). take w (drop (i * w) (converted_records S D c (readings S D source) background ++ t))) e
      ∙ converted_at_lem S D f g c (readings S D source) background wide i t h
      ∙ ap (λ (w : ℕ). converted_record S D (readings S D source i) (take w (drop (i * w) background))) (sym e)

  -- what comes behind the records
  pub behind : (t : List ℕ) → drop (c * d) (converted_records S D c (readings S D source) background ++ t) ≡ t
  behind t =
      drop_at (converted_records S D c (readings S D source) background) t (c * d)
      (converted_length S D f g c (readings S D source) background wide ∙ ap (λ (w : ℕ). c * w) (sym e))
