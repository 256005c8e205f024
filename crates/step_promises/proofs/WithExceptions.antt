-- Document 02, 2026-14: "If A to B raises no exception". Where it raises one and is done all the same, the claim is false: 300 is clamped to the 255 of B's byte
-- and is 255 in C, and straight from A it is 300. The checker computes the runs. Assumes nothing.
use mathlib.Core.Path.{◌≡◌, refl, sym, ap, ◌∙◌}
use mathlib.Core.Bool.{false}
use mathlib.Core.Logic.{inl}
use mathlib.Core.List.{List, [], ◌∷◌}
use Prim.Native.Nat.{ℕ}
use Prim.Native.String.{String}
use native.Mathlib.Omega.{arith}
use lib.ListN.{take, get_or}
use Rattle.answer.specs.declared.Answer.TheVariants.{Done}
use Rattle.answer.specs.Answer.{number_of}
use Rattle.bits.specs.declared.Order.TheVariants.{LE}
use Rattle.datatype.specs.Datatype.{Datatype}
use Rattle.datatype.specs.Datatype.Leaf.{atomic}
use Rattle.datatype.specs.Datatype.Datatype.{leaf}
use Rattle.text.specs.Text.{bytes}
use Rattle.sheet.specs.Sheet.{sheet_of}
use Rattle.sheet.specs.Sheet.Sheet.{of_type}
use Rattle.sheet.proofs.ReadWellFormed.{read_well_formed}
use Rattle.datatype.specs.Handling.{clamp}
use Rattle.runs.specs.Run.{Run, copying_run, plain, answer, after}
use Rattle.promises.proofs.Exercises.{words}
use Rattle.step_promises.specs.TwoSteps.{AllAccepted, SameRecords, SameBackgroundAndHandling, SameNames, NoReals, WithExceptions}
use Rattle.step_promises.proofs.NoReals.{no_reals, int_no_real}
use Rattle.step_promises.proofs.Names.{same_names, same_names_lem}
use Rattle.step_promises.proofs.Computed.{computed, int, all_accepted}

-- ---- the sheets, and their types

abbrev two_bytes : String
two_bytes = "int\t2\tLE\t0\t16\tzero\tzero\tunsigned\n"

abbrev one_byte : String
one_byte = "int\t1\tLE\t0\t8\tzero\tzero\tunsigned\n"

-- A, and C too
abbrev wide : Datatype
wide = leaf (atomic (int 2 LE 16 false))

abbrev narrow : Datatype
narrow = leaf (atomic (int 1 LE 8 false))

of_wide : sheet_of (bytes two_bytes) ≡ of_type wide
unfolding computed
of_wide = refl

of_narrow : sheet_of (bytes one_byte) ≡ of_type narrow
unfolding computed
of_narrow = refl

-- ---- 300, by way of B, which clamps it, and straight

abbrev to_b : Run
to_b = copying_run (bytes two_bytes) (bytes one_byte) 1 clamp (0x2c ∷ 1 ∷ []) (0 ∷ []) words

abbrev on_to_c : Run
on_to_c = copying_run (bytes one_byte) (bytes two_bytes) 1 plain (after to_b) (0 ∷ 0 ∷ []) words

abbrev straight : Run
straight = copying_run (bytes two_bytes) (bytes two_bytes) 1 plain (0x2c ∷ 1 ∷ []) (0 ∷ 0 ∷ []) words

answers : (answer to_b ≡ Done 1) × (answer on_to_c ≡ Done 0) × (after on_to_c ≡ 0xff ∷ 0 ∷ []) × (answer straight ≡ Done 0) × (after straight ≡ 0x2c ∷ 1 ∷ [])
unfolding computed
answers = (refl, refl, refl, refl, refl)

-- ---- every other condition holds

accepted : AllAccepted wide narrow wide to_b on_to_c straight
accepted =
    all_accepted wide narrow wide to_b on_to_c straight (record { source = of_wide; destination = of_narrow }) (record { source = of_narrow; destination = of_wide })
    (record { source = of_wide; destination = of_wide }) (inl (ap number_of answers.0)) (inl (ap number_of answers.1)) (inl (ap number_of answers.3))

names : SameNames wide narrow wide
unfolding same_names
names = same_names_lem wide narrow wide refl

reals : NoReals wide narrow wide
reals = no_reals wide narrow wide (read_well_formed (bytes two_bytes) wide of_wide) (int_no_real (int 2 LE 16 false)) (int_no_real (int 1 LE 8 false))

on_the_records : SameRecords wide narrow to_b on_to_c straight
on_the_records = record { q_count = refl; p_count = refl; left = refl; source = refl }

same : SameBackgroundAndHandling wide on_to_c straight
same = record { background = refl; handling = refl }

-- Where the first step clamped a number, two steps and one may make different bytes.
pub not_with_exceptions : ¬ WithExceptions
not_with_exceptions always =
    let e = (always wide narrow wide to_b on_to_c straight accepted names reals (ap number_of answers.0) on_the_records same).converted (ap number_of answers.1) in
    let high : List ℕ → ℕ = λ l. get_or (take 2 l) 1 0 in
    let no : ◌≡◌ {A = ℕ} 0 1 = ap high (sym answers.2) ∙ ap (λ (l : List ℕ). get_or l 1 0) e ∙ ap high answers.4 in
    absurd (omega (arith, no))
