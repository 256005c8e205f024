-- Document 02, 2026-14: "no field on the way is a real". With one the claim is false: of 300 that is too large for C, STOP names the int 300 by way of an int B,
-- and the 64 bits of a real straight from A. The checker computes the runs. Assumes nothing.
use mathlib.Core.Path.{◌≡◌, refl, sym, ap, ◌∙◌}
use mathlib.Core.Bool.{true, false}
use mathlib.Core.Logic.{inl, inr}
use mathlib.Core.List.{[], ◌∷◌}
use Prim.Native.Nat.{ℕ}
use Prim.Native.String.{String}
use native.Mathlib.Omega.{arith}
use Rattle.answer.specs.declared.Answer.{Answer}
use Rattle.answer.specs.declared.Answer.TheVariants.{Done, Stop}
use Rattle.answer.specs.declared.Given.TheVariants.{Whole, Real}
use Rattle.answer.specs.declared.Values.{Values}
use Rattle.answer.specs.Answer.{number_of, values_of}
use Rattle.bits.specs.declared.Order.TheVariants.{LE}
use Rattle.datatype.specs.Datatype.{binary64, Datatype}
use Rattle.datatype.specs.Datatype.Leaf.{atomic, real}
use Rattle.datatype.specs.Datatype.Datatype.{leaf}
use Rattle.text.specs.Text.{bytes}
use Rattle.sheet.specs.Sheet.{sheet_of}
use Rattle.sheet.specs.Sheet.Sheet.{of_type}
use Rattle.runs.specs.Run.{Run, copying_run, plain, answer, after}
use Rattle.promises.proofs.Exercises.{words}
use Rattle.step_promises.specs.TwoSteps.{AllAccepted, SameRecords, SameBackgroundAndHandling, SameNames, WithReals}
use Rattle.step_promises.proofs.Names.{same_names, same_names_lem}
use Rattle.step_promises.proofs.Computed.{computed, int, all_accepted, without_exception}

-- ---- the sheets, and their types

abbrev real_sheet : String
real_sheet = "real\t8\tLE\n"

abbrev two_bytes : String
two_bytes = "int\t2\tLE\t0\t16\tzero\tzero\tsigned\n"

abbrev one_byte : String
one_byte = "int\t1\tLE\t0\t8\tzero\tzero\tunsigned\n"

abbrev A : Datatype
A = leaf (real (binary64 LE))

abbrev B : Datatype
B = leaf (atomic (int 2 LE 16 true))

abbrev C : Datatype
C = leaf (atomic (int 1 LE 8 false))

of_A : sheet_of (bytes real_sheet) ≡ of_type A
unfolding computed
of_A = refl

of_B : sheet_of (bytes two_bytes) ≡ of_type B
unfolding computed
of_B = refl

of_C : sheet_of (bytes one_byte) ≡ of_type C
unfolding computed
of_C = refl

-- ---- 300.0, by way of B and straight

abbrev to_b : Run
to_b = copying_run (bytes real_sheet) (bytes two_bytes) 1 plain (0 ∷ 0 ∷ 0 ∷ 0 ∷ 0 ∷ 0xc0 ∷ 0x72 ∷ 0x40 ∷ []) (0 ∷ 0 ∷ []) words

abbrev on_to_c : Run
on_to_c = copying_run (bytes two_bytes) (bytes one_byte) 1 plain (after to_b) (0 ∷ []) words

abbrev straight : Run
straight = copying_run (bytes real_sheet) (bytes one_byte) 1 plain (0 ∷ 0 ∷ 0 ∷ 0 ∷ 0 ∷ 0xc0 ∷ 0x72 ∷ 0x40 ∷ []) (0 ∷ []) words

answers : (answer to_b ≡ Done 0) × (answer on_to_c ≡ Stop 0 0 1 (Whole false 300)) × (answer straight ≡ Stop 0 0 1 (Real 0x4072c00000000000))
unfolding computed
answers = (refl, refl, refl)

-- ---- every other condition holds

accepted : AllAccepted A B C to_b on_to_c straight
accepted =
    all_accepted A B C to_b on_to_c straight (record { source = of_A; destination = of_B }) (record { source = of_B; destination = of_C })
    (record { source = of_A; destination = of_C }) (inl (ap number_of answers.0)) (inr (ap number_of answers.1)) (inr (ap number_of answers.2))

names : SameNames A B C
unfolding same_names
names = same_names_lem A B C refl

on_the_records : SameRecords A B to_b on_to_c straight
on_the_records = record { q_count = refl; p_count = refl; left = refl; source = refl }

same : SameBackgroundAndHandling C on_to_c straight
same = record { background = refl; handling = refl }

-- With a real on the way STOP may name different numbers.
pub not_with_reals : ¬ WithReals
not_with_reals always =
    let e = (always A B C to_b on_to_c straight accepted names (without_exception to_b answers.0) on_the_records same).answers.fields in
    let sign : Answer → ℕ = λ a. (values_of a).given in
    let no : ◌≡◌ {A = ℕ} 0 2 = ap sign (sym answers.1) ∙ ap (λ (v : Values). v.given) e ∙ ap sign answers.2 in
    absurd (omega (arith, no))
