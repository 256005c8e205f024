-- What a call for the mask tells where it is done, and what it leaves. Assumes nothing: the types of sheets are well formed (crate sheet).
use mathlib.Core.Path.{◌≡◌, ap, ◌∙◌, subst, subst₂}
use mathlib.Core.Logic.{◌⊎◌, ⊎_elim, ◌↔◌}
use mathlib.Core.Bool.{true}
use mathlib.Core.List.{◌++◌}
use Prim.Native.Nat.{ℕ, ◌≤◌, ◌<◌}
use native.Mathlib.Omega.{arith}
use lib.Dec.{leb}
use lib.ListN.{length, get_or, drop, length-append, length-drop, get_or-append}
use lib.Seq.{drop_at}
use borrow.Author.Tests.{leb-true}
use Rattle.answer.specs.declared.Answer.{Answer}
use Rattle.answer.specs.declared.Answer.TheVariants.{Table, Source, Destination, Path, Symbols, Room}
use Rattle.answer.specs.Answer.{number_of}
use Rattle.bits.specs.Container.{bit}
use Rattle.datatype.specs.Datatype.{Datatype, size}
use Rattle.datatype.specs.Paths.{has_path}
use Rattle.datatype.specs.SymbolSets.{keeps_symbols}
use Rattle.datatype.specs.WellFormed.{WellFormed}
use Rattle.sheet.specs.Sheet.{sheet_of}
use Rattle.sheet.specs.Sheet.Sheet.{of_type}
use Rattle.sheet.proofs.ReadWellFormed.{read_well_formed}
use Rattle.runs.specs.Run.Checked.{refused, passed}
use Rattle.runs.proofs.Checks.{refused_or_passed, required, sheet_read, Refusals, require_refuses, sheet_refuses}
use Rattle.masks.specs.Mask.{mask}
use Rattle.masks.specs.Says.{Significant}
use Rattle.masks.proofs.Says.{says}
use Rattle.reaches.specs.Call.{Call, checks, answer, mask_after}
use Rattle.mask_promises.specs.Demand1.{answer_number}
use Rattle.mask_promises.specs.Mask.{Masked, MaskBuffer}

-- ---- refused

abbrev Above : Answer → Type 0
Above a = 1 ≤ number_of a

-- no refusal has number 0
checks_refuse : (c : Call) → Refusals Above (checks c)
unfolding checks
checks_refuse c =
    require_refuses Above (leb 8192 (length c.table)) Table _ (λ e. omega arith)
    (sheet_refuses Above (sheet_of c.source_sheet) Source _ (λ k. omega arith)
    (λ S s. sheet_refuses Above (sheet_of c.destination_sheet) Destination _ (λ k. omega arith)
    (λ D d. require_refuses Above (has_path S D) Path _ (λ e. omega arith)
    (require_refuses Above (keeps_symbols S D) Symbols _ (λ e. omega arith)
    (require_refuses Above (leb (size S) (length c.mask)) Room (passed S D) (λ e. omega arith) tt)))))

module _ (c : Call) (a : Answer) (e : checks c ≡ refused a) where
  refused_number : 1 ≤ answer_number c
  unfolding answer
  refused_number = rw e (subst (Refusals Above) e (checks_refuse c))

  mask_refused : mask_after c ≡ c.mask
  unfolding mask_after
  mask_refused = rw e

-- ---- done

-- what is known of a call that no check refuses
pub record Told (c : Call) (S D : Datatype) : Type 0 where
  pub source : sheet_of c.source_sheet ≡ of_type S
  pub destination : sheet_of c.destination_sheet ≡ of_type D
  pub path : has_path S D ≡ true
  pub symbols : keeps_symbols S D ≡ true
  pub room : size S ≤ length c.mask

module _ (c : Call) (S D : Datatype) where
  passed_tells : checks c ≡ passed S D → Told c S D
  unfolding checks
  passed_tells e =
      let c₁ = required (leb 8192 (length c.table)) Table _ e in
      let c₂ = sheet_read (sheet_of c.source_sheet) Source _ c₁.1 in
      let c₃ = sheet_read (sheet_of c.destination_sheet) Destination _ c₂.2 in
      let c₄ = required (has_path c₂.0 c₃.0) Path _ c₃.2 in
      let c₅ = required (keeps_symbols c₂.0 c₃.0) Symbols _ c₄.1 in
      let c₆ = required (leb (size c₂.0) (length c.mask)) Room _ c₅.1 in
      let p : passed c₂.0 c₃.0 ≡ passed S D = c₆.1 in
      let i : c₂.0 ≡ S = cc in
      let j : c₃.0 ≡ D = cc in
      subst₂ (Told c) i j
      (record { source = c₂.1; destination = c₃.1; path = c₄.0; symbols = c₅.0; room = leb-true (size c₂.0) (length c.mask) c₆.0 })

  mask_passed : checks c ≡ passed S D → mask_after c ≡ mask S D ++ drop (size S) c.mask
  unfolding mask_after
  mask_passed e = rw e

  passed_done : checks c ≡ passed S D → answer_number c ≡ 0
  unfolding answer
  passed_done e = rw e

module _ (c : Call) (S D : Datatype) (m : Masked c S D) where
  masked_passes : checks c ≡ passed S D
  masked_passes =
      ⊎_elim (λ (x : (a : Answer) × (checks c ≡ refused a)). absurd (omega (arith, refused_number c x.0 x.1, m.done)))
      (λ (x : (U : Datatype) × (W : Datatype) × (checks c ≡ passed U W)).
      let t = passed_tells c x.0 x.1 x.2 in
      let i : x.0 ≡ S = cc (m.source, t.source) in
      let j : x.1 ≡ D = cc (m.destination, t.destination) in
      subst₂ (λ (U W : Datatype). checks c ≡ passed U W) i j x.2)
      (refused_or_passed (checks c))

  pub masked_tells : Told c S D
  masked_tells = passed_tells c S D masked_passes

  pub source_formed_lem : WellFormed S
  source_formed_lem = read_well_formed c.source_sheet S m.source

  pub destination_formed_lem : WellFormed D
  destination_formed_lem = read_well_formed c.destination_sheet D m.destination

  mask_long : length (mask S D) ≡ size S
  mask_long = (says S D source_formed_lem destination_formed_lem).long

  -- the bytes of the mask buffer are the mask's
  mask_byte : (j : ℕ) → j < size S → get_or (mask_after c) j 0 ≡ get_or (mask S D) j 0
  mask_byte j l = rw (mask_passed c S D masked_passes) (get_or-append (mask S D) (drop (size S) c.mask) 0 j (rw mask_long l))

  pub mask_says : (j q : ℕ) → j < size S → q < 8 → bit q (get_or (mask_after c) j 0) ≡ 1 ↔ Significant S D j q
  mask_says j q l h = rw (mask_byte j l) ((says S D source_formed_lem destination_formed_lem).exactly j q l h)

  mask_behind : drop (size S) (mask_after c) ≡ drop (size S) c.mask
  mask_behind = ap (drop (size S)) (mask_passed c S D masked_passes) ∙ drop_at (mask S D) (drop (size S) c.mask) (size S) mask_long

-- ---- what it leaves

-- The mask buffer of a call that is done begins with the mask; a refusal leaves it, and what is behind the mask stays.
pub mask_buffer : (c : Call) → MaskBuffer c
mask_buffer c =
    ⊎_elim
    (λ (x : (a : Answer) × (checks c ≡ refused a)).
    let e = mask_refused c x.0 x.1 in
    record {
      lengths = ap length e;
      refusals = λ n. e;
      exactly = λ S D m. mask_says c S D m;
      behind = λ S D m. mask_behind c S D m;
    })
    (λ (x : (S : Datatype) × (D : Datatype) × (checks c ≡ passed S D)).
    let t = passed_tells c x.0 x.1 x.2 in
    let long = (says x.0 x.1 (read_well_formed c.source_sheet x.0 t.source) (read_well_formed c.destination_sheet x.1 t.destination)).long in
    record {
      lengths = rw (mask_passed c x.0 x.1 x.2, length-append, length-drop, long) (omega (arith, t.room));
      refusals = λ n. absurd (n (passed_done c x.0 x.1 x.2));
      exactly = λ S D m. mask_says c S D m;
      behind = λ S D m. mask_behind c S D m;
    })
    (refused_or_passed (checks c))
