-- What a caller learns of a sheet that was read: its type stands in the table, and it is well formed. Assumes nothing.
use Rattle.std.specs.Prelude.{Ok, Err}
use mathlib.Core.Path.{◌≡◌, sym, ap, ◌∙◌}
use mathlib.Core.List.{List}
use Prim.Native.Nat.{ℕ, suc, ◌-◌, ◌≤◌}
use native.Mathlib.Omega.{arith}
use Rattle.datatype.specs.WellFormed.{WellFormed}
use Rattle.table.specs.Table.{type_at, types_at}
use Rattle.sheet_steps.specs.declared.Counts.{Counts}
use Rattle.sheet_steps.specs.declared.FaultyLine.{FaultyLine}
use Rattle.sheet.specs.Sheet.{newest, typed, sheet_of}
use Rattle.sheet.specs.Sheet.Sheet.{of_type, faulty_at}
use Rattle.sheet_steps.specs.Read.{ReadsSheet}
use Rattle.sheet.proofs.ReadWellFormed.{read_well_formed}

module _ (t w : List ℕ) where
  pub sheet_fault : (f : FaultyLine) → ReadsSheet t w (Err f) → sheet_of t ≡ faulty_at f.0
  unfolding sheet_of
  sheet_fault f r = ap typed (sym r.is)

  newest_type : (n : ℕ) → 1 ≤ n → newest (types_at w t n) ≡ of_type (type_at w t (n - 1))
  unfolding types_at
  newest_type n h =
      let e : n ≡ suc (n - 1) = omega arith in
      ap (λ (k : ℕ). newest (types_at w t k)) e

  module _ (c : Counts) (r : ReadsSheet t w (Ok c)) where
    pub sheet_type : sheet_of t ≡ of_type (type_at w t (c.types - 1))
    unfolding sheet_of
    sheet_type = ap typed (sym r.is) ∙ newest_type c.types r.stands.some

    pub type_formed : WellFormed (type_at w t (c.types - 1))
    type_formed = read_well_formed t (type_at w t (c.types - 1)) sheet_type
